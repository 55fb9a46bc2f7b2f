pub mod Cuts
pub mod Feeding
pub mod Whole
