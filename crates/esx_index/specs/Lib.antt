pub mod Places
pub mod Index
pub mod Falls
pub mod Marks
