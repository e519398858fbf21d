pub use Rattle.hex.specs.Hex
pub mod Writing
