use Rattle.esx_recording.proofs.LawLemmas.{keeps_questions}
use Rattle.esx_recording.proofs.laws.questions_are_kept.Goals as goal

pub returns : goal.returns
returns c = keeps_questions
