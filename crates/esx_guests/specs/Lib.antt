pub mod Runs
pub use Rattle.esx_model.specs.Console
pub use Rattle.esx_model.specs.Alone
pub use Rattle.esx_model.specs.Guests
pub use Rattle.esx_workers.specs.Runs as WorkerRuns
pub use Rattle.esx_workers.specs.GuestRuns
