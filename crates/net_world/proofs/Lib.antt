pub mod Arrivals
pub mod Ends
pub mod Following
pub mod KeptQueues
pub mod Passing
pub mod Reading
