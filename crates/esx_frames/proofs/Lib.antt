pub mod RowLemmas
pub mod KnownLemmas
pub mod Callers
pub mod PageLemmas
