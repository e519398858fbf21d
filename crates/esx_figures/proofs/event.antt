pub mod Access
pub mod Looking
pub mod Balloon
pub mod Leaving
pub mod Others
