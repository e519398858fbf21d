pub use Rattle.esx_changes.specs.Planned
pub mod Sharing
pub mod Paging
