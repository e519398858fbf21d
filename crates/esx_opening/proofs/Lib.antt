pub mod HowMany
pub mod InTurn
