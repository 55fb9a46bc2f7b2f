pub mod Lists
pub mod Places
pub mod Rings
pub mod Walk
pub mod Way
pub mod Moves
pub mod Frame
pub mod Examples
