pub mod GroupLemmas
pub mod MapLemmas
pub mod LoanLemmas
pub mod UsedLemmas
