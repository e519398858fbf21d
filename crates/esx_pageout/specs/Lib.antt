pub use Rattle.esx_model.specs.Site
pub use Rattle.esx_model.specs.Replay
pub use Rattle.esx_model.specs.event.Paging
pub use Rattle.esx_story.specs.Readings
pub use Rattle.esx_machine.specs.Machine
pub mod Word
pub mod Draws
