pub mod SignLemmas
pub mod OneLineLemmas
pub mod PuttingLemmas
pub mod SidesLemmas
pub mod ToldLemmas
