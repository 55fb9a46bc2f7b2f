pub mod Serve
pub mod Desk
