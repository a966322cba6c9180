pub mod Digits
pub mod Scan
pub mod Scanned
pub mod Table
pub mod View
