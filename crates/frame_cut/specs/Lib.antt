pub mod Frame
pub mod Stream
