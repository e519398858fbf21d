pub mod Marks
pub mod IndexLemmas
