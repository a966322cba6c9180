pub mod Keep
pub mod Path
pub mod Steps
