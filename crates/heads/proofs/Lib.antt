pub mod Steps
pub mod Tests
