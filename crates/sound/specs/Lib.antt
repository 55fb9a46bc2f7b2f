pub mod Passed
pub mod Opened
