pub use Rattle.esx_tables.specs.Changes
pub use Rattle.esx_changes.specs.Planned
pub mod Refinement
