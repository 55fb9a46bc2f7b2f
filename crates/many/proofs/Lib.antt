pub mod Parts
pub mod Lasts
pub mod Noted
pub mod Sweeping
pub mod Gathering
