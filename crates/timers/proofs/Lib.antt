pub mod Left
pub mod Dues
pub mod Least
pub mod Sorted
pub mod Answers
