pub mod History
pub mod Ticks
pub mod Turns
