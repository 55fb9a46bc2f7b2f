pub mod Locking
pub mod Reentry
