pub use Rattle.esx_formulas.specs.Average
pub use Rattle.esx_formulas.specs.Estimates
pub use Rattle.esx_formulas.specs.Ratio
pub use Rattle.esx_formulas.specs.Targets
pub mod Means
pub mod Bulk
