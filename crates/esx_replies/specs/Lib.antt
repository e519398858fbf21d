pub use Rattle.hex.specs.Hex
pub use Rattle.esx_events.specs.Names
pub use Rattle.esx_events.specs.Numbers
pub use Rattle.esx_writing.specs.Writing
pub mod Signs
pub mod Texts
pub mod Replies
pub mod Told
