pub mod Many
pub mod Bands
