pub mod Differences
pub mod Explaining
pub mod Following
pub mod Laying
pub mod OneRefusal
pub mod Queues
pub mod Replaying
pub mod SameEvents
