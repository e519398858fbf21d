pub use Rattle.esx_types.specs.Ranges
pub use Rattle.esx_formulas.specs.Level
pub mod Inside
