pub mod Draws
pub mod Told
pub mod Out
