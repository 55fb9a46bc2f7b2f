pub mod History
pub mod Promises
pub mod Readings
pub mod Ticks
pub mod Turns
