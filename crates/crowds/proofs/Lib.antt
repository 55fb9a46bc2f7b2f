pub mod Leaving
pub mod Rising
pub mod Crowds
