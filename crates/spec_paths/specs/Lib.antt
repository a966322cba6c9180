pub mod Ahead
pub mod Bounds
pub mod Crowded
pub mod Sought
pub mod Tests
