pub use Rattle.esx_tables.specs.Changes
pub use Rattle.esx_tables.specs.Readings
pub mod Planned
pub mod Activity
pub mod Counted
pub mod Drawn
pub mod Leaves
pub mod Spare
