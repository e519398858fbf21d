pub mod Steady
pub mod event
pub mod Every
pub mod Complete
pub mod Once
pub mod Listed
pub mod Spotted
