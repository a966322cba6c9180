pub mod Coming
pub mod FirstValues
pub mod Fitting
pub mod SilentWork
pub mod States
