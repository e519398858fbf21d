pub mod Figures
pub mod Steps
pub mod Sharing
pub mod Laws
