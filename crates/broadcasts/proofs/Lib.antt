pub mod Crowding
pub mod Ticking
pub mod Numbers
