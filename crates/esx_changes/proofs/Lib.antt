pub mod Rows
pub mod Turned
pub mod Draws
pub mod Spares
