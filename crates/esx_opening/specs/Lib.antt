pub mod Orders
pub mod Openings
pub use Rattle.esx_model.specs.Console
pub use Rattle.esx_console.specs.Calls
pub use Rattle.esx_scenario.specs.Plans
