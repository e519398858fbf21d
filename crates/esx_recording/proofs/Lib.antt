pub mod ByteLemmas
pub mod QuestionLemmas
pub mod RecordingLemmas
pub mod LawLemmas
pub mod ReplyLemmas
