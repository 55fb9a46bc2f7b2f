pub mod Queues
pub mod Lists
pub mod Visits
pub mod Whole
pub mod Passes
pub mod Numbers
pub mod Check
pub mod Asked
