pub mod Cursors
pub mod Legality
pub mod Net
pub mod Way
