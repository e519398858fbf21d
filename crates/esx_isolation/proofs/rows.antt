pub mod Isolation
pub mod Beside
