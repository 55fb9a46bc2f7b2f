pub mod Ring
pub mod Way
