pub mod Cases
pub mod Options
pub mod Parts
pub mod Reading
pub mod Sending
pub mod Served
pub mod State
pub mod Statement
