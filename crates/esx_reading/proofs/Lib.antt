pub mod FieldLemmas
mod FrontLemmas
pub mod HexField
mod HexLanes
mod HexTable
mod LaneLemmas
pub mod NumberLemmas
pub mod Results
mod OneFieldLemmas
mod SpaceLemmas
