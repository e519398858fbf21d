pub mod Levels
pub mod Averages
pub mod Shares
pub mod Keys
