pub mod Names
pub mod Lists
pub mod Numbers
pub mod Limits
