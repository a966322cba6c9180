pub mod Listed
pub mod Page
pub mod Unplaced
pub mod Writable
