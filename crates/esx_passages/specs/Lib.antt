pub mod Passages
pub mod Readings
pub mod Laws
