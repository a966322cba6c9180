pub mod Answered
pub mod Fronts
pub mod LengthCuts
pub mod LengthFrames
pub mod LineCuts
pub mod LineFrames
pub mod Messages
pub mod Streams
