pub use Rattle.esx_changes.specs.Planned
pub use Rattle.esx_changes.specs.Counted
pub mod Access
pub mod Replacing
