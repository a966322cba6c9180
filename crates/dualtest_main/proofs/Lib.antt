pub mod Answered
pub mod FileStops
pub mod LowConns
pub mod OneEnd
pub mod RightStatus
pub mod Stages
