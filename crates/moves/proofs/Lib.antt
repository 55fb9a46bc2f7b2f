pub mod Queues
pub mod Relinks
pub mod Tries
pub mod Loose
pub mod Moves
pub mod Numbers
pub mod QueueBy
pub mod Shared
