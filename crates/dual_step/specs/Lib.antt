pub mod Events
pub mod Left
pub mod Next
pub mod State
pub mod Taking
