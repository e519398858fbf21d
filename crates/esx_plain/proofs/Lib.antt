pub mod Lists
pub mod FirstPages
pub mod Tables
pub mod Paths
