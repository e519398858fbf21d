pub mod Trades
pub mod Turns
pub mod Counts
pub mod Positions
pub mod Tops
