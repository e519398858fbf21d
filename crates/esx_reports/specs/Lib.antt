pub mod Paths
pub mod Reasons
pub mod Answers
pub mod Telling
