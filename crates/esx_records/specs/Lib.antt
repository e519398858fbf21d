pub use Rattle.esx_machine.specs.Machine
pub use Rattle.esx_tables.specs.Sizes
pub mod Small
pub mod Forms
pub mod Moves
