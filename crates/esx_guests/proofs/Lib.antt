pub mod Beside
pub mod Ordered
pub mod Opened
