use Rattle.std.proofs.Common.{sym, ◌∙◌}
use Rattle.esx_scenario.proofs.LineLemmas.{line_of_none, line_of_read, line_of_write, line_of_ask, line_of_lend, line_of_take_back, line_of_other}
use Rattle.esx_scenario.proofs.line.line_of_fields.Goals as goal

pub returns-in_default : goal.returns-in_default
returns-in_default c = sym (line_of_none _ c.in_default.ensures.left)

pub returns-in-read : goal.returns-in-read
returns-in-read c = c.read_of.ensures ∙ sym (line_of_read _ _ _ c.in-Some.ensures.left c.in-read.is)

pub returns-in-write : goal.returns-in-write
returns-in-write c = rw (line_of_write _ _ _ c.in-Some.ensures.left c.in-write.is) c.write_of.ensures

pub returns-in-ask : goal.returns-in-ask
returns-in-ask c = c.ask_of.ensures ∙ sym (line_of_ask _ _ _ c.in-Some.ensures.left c.in-ask.is)

pub returns-in-lend : goal.returns-in-lend
returns-in-lend c = c.lend_of.ensures ∙ sym (line_of_lend _ _ _ c.in-Some.ensures.left c.in-lend.is)

pub returns-in-takeback : goal.returns-in-takeback
returns-in-takeback c = c.take_back_of.ensures ∙ sym (line_of_take_back _ _ _ c.in-Some.ensures.left c.in-takeback.is)

pub returns-in_default-verb : goal.returns-in_default-verb
returns-in_default-verb c = let d = c.in_default-verb in sym (line_of_other _ _ _ c.in-Some.ensures.left d.not-read d.not-write d.not-ask d.not-lend d.not-takeback)
