pub mod Counts
pub mod Trades
