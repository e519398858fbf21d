pub mod Legal
pub mod Told
pub use Rattle.esx_types.specs.Ids
pub use Rattle.esx_types.specs.Ranges
pub use Rattle.esx_model.specs.Console
pub use Rattle.esx_console.specs.Console as ConsoleGauge
pub use Rattle.esx_lock.specs.Logs
pub use Rattle.esx_lock.specs.Words
pub use Rattle.esx_lock.specs.Passes
