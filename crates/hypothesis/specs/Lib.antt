pub mod Along
pub mod Expansions
pub mod Judged
pub mod Left
pub mod PickTest
pub mod Possible
pub mod Received
pub mod Stands
