pub mod v1
pub mod Versions
