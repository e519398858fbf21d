pub use Rattle.esx_model.specs.Memory
pub use Rattle.esx_model.specs.History
pub use Rattle.esx_scenario.specs.Plans
pub use Rattle.esx_console.specs.Calls
pub use Rattle.esx_opening.specs.Openings
pub mod Refused
pub mod Promised
pub mod Telling
