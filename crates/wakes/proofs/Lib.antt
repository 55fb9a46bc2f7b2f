pub mod Waking
pub mod Aborting
