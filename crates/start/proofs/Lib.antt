pub mod Lining
pub mod Started
