pub mod Names
pub mod Meanings
