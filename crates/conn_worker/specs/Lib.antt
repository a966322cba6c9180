pub mod Driving
pub mod Parts
pub mod Progress
pub mod Seen
pub mod Settling
pub mod Turn
