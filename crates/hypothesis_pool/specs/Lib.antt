pub mod Fed
pub mod Pool
pub mod Search
pub mod Standing
pub mod Thinning
pub mod Unalike
