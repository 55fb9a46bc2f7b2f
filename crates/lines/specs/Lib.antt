pub mod Lines
pub mod Session
pub mod Examples
