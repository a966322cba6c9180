mod Named
mod FreshLinks
mod PartTaken
pub mod Telling
