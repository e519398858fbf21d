pub use Rattle.hex.specs.Hex
pub mod Faults
pub mod Fields
pub mod Whole
pub mod Written
