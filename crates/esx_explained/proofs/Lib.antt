pub mod WordLemmas
pub mod ValueLemmas
pub mod DistanceLemmas
pub mod NearLemmas
pub mod LineLemmas
pub mod LawLemmas
pub mod InputLemmas
