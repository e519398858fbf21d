pub mod Tally
pub mod Passes
pub mod Crowd
