pub mod Accepted
pub mod Bad
pub mod Fault
pub mod Names
pub mod Path
pub mod Place
pub mod ToDo
