pub mod Calls
pub mod Gates
pub mod Own
