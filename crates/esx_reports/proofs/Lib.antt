pub mod Explained
pub mod Paths
pub mod Answered
