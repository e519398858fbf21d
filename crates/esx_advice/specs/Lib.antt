pub mod Advised
pub use Rattle.esx_model.specs.Advice
pub use Rattle.esx_model.specs.Debts
pub use Rattle.esx_model.specs.Guests
