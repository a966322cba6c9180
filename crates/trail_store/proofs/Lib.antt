pub mod Keeping
pub mod KeptPaths
pub mod PathsOfSteps
pub mod Renumbering
pub mod Sublists
