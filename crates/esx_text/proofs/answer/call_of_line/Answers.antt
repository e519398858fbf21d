use Rattle.esx_text.specs.Lines.{input_bytes}
use Rattle.esx_text.proofs.AnswerLemmas.{asked_is_utf8}
use Rattle.esx_text.proofs.answer.call_of_line.Goals as goal

pub returns-in_default-clause-found : goal.returns-in_default-clause-found
returns-in_default-clause-found c = λ call is. c.in_default.ensures (asked_is_utf8 (input_bytes c.args.line) call is)
