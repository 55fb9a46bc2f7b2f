pub mod Layout
pub mod State
pub mod Reading
pub mod Sound
pub mod Holds
pub mod Rings
pub mod Loose
pub mod Calls
