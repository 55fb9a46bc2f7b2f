pub mod Requeues
pub mod Ranking
pub mod Ways
