pub use Rattle.esx_types.specs.Ranges
pub use Rattle.esx_formulas.specs.Ratio
pub use Rattle.esx_writing.specs.Writing
pub use Rattle.esx_model.specs.Advice
pub use Rattle.esx_model.specs.event.Rebalancing
pub use Rattle.esx_story.specs.Order as StoryOrder
pub use Rattle.esx_machine.specs.Machine
pub mod Order
pub mod Telling
pub mod Laws
