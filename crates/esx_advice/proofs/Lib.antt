pub mod AdviceTaken
pub mod Weights
pub mod Lowering
pub mod Scenes
pub mod Falls
pub mod Following
pub mod Bound
pub mod Waiting
pub mod Ending
mod rows
