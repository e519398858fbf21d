pub mod Shifting
pub mod Telling
pub mod Looking
pub mod Logs
pub mod Watches
