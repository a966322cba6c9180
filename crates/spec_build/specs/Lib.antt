pub mod Parts
pub mod Reader
pub mod Statements
pub mod Whole
