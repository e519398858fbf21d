pub mod Numbers
pub mod Chained
pub mod Finds
pub mod KeyPlaces
pub mod Draws
pub mod Few
pub mod Rows
pub mod Late
