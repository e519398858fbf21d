pub use Rattle.esx_types.specs.Frames
pub use Rattle.esx_lists.specs.Trades
pub mod Counts
pub mod Known
pub mod Marks
pub mod Table
