pub mod Asked
pub mod Headline
pub mod Outcome
pub mod Report
pub mod Stops
pub mod Words
