pub mod Demands
pub mod OnTime
