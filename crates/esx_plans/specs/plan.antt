pub mod Admission
pub mod Balloon
pub mod Leaving
pub mod Ratios
pub mod Rebalancing
pub mod Starting
pub mod Event
pub mod Sampling
