pub use Rattle.esx_types.specs.Slots
pub mod Known
pub mod Table
