pub use Rattle.esx_types.specs.Pages
pub mod Blocks
pub mod Loans
pub mod Map
