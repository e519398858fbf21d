pub use Rattle.esx_tables.specs.Changes
pub use Rattle.esx_tables.specs.Readings
pub mod plan
