pub mod Sums
pub mod Spelling
pub mod Counting
pub mod Sharing
pub mod Turns
pub mod Seating
pub mod Known
