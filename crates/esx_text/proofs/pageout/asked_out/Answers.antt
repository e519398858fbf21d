use Rattle.std.proofs.Common.{ap, ◌∙◌}
use Rattle.esx_reading.specs.Fields.{fields}
use Rattle.esx_text.specs.Lines.{input_bytes}
use Rattle.esx_text.proofs.PageOutLemmas.{asked_by_fields, pageout_is_utf8}
use Rattle.esx_text.proofs.pageout.asked_out.Goals as goal

pub returns-in_default : goal.returns-in_default
returns-in_default c = λ n page asks. c.in_default.ensures (pageout_is_utf8 (input_bytes c.args.line) n page asks)

pub returns : goal.returns
returns c = asked_by_fields c.asked_of.result (input_bytes c.args.line) c.of.result (c.of.ensures ∙ ap fields c.in-Some.ensures) c.asked_of.ensures.some c.asked_of.ensures.none
