pub mod Waiting
pub mod Wakes
