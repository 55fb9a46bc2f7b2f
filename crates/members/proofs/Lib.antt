pub mod Marks
pub mod Steps
pub mod Tests
pub mod Walks
pub mod Chains
