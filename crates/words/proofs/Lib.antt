pub mod Words
pub mod Values
pub mod After
