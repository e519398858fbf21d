pub mod Isolation
pub mod Sharing
pub mod Beside
pub use Rattle.esx_model.specs.Memory
pub use Rattle.esx_model.specs.Guests
