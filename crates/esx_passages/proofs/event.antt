pub mod Access
pub mod Balloon
pub mod Sharing
pub mod Others
