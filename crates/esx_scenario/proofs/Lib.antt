pub mod KeyLemmas
pub mod LineLemmas
pub mod GuestLemmas
pub mod StrangeLemmas
pub mod ScenarioLemmas
