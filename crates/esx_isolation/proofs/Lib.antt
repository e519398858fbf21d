pub mod Turns
pub mod event
pub mod Every
pub mod guest
mod rows
