pub mod PartsRead
pub mod Readings
pub mod StatementsRead
pub mod TreesMade
pub mod Turns
pub mod WholeRead
