pub mod Characters
pub mod Form
pub mod Free
pub mod Known
pub mod Least
pub mod RootTexts
pub mod Solved
