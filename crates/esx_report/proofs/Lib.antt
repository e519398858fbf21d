pub mod BehindLemmas
pub mod CommaLemmas
pub mod EndLemmas
pub mod FieldLemmas
pub mod RatioLemmas
pub mod RefusalLemmas
pub mod WhyLemmas
