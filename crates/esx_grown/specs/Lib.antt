pub mod Grown
pub mod Lends
