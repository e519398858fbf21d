use Rattle.std.proofs.Common.{add-one}
use Rattle.esx_recording.proofs.QuestionLemmas.{one_line_all, one_line_to}
use Rattle.esx_recording.proofs.questions.first_line.Goals as goal

pub returns-in-Some-clause-one : goal.returns-in-Some-clause-one
returns-in-Some-clause-one c = rw add-one (one_line_to c.args.text.now c.in-Some.at c.in-Some.ensures.0.before)

pub returns-in-None-clause-one : goal.returns-in-None-clause-one
returns-in-None-clause-one c = one_line_all c.args.text.now c.in-None.ensures
