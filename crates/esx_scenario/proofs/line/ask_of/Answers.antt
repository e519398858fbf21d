use Rattle.std.proofs.Common.{sym}
use Rattle.esx_scenario.proofs.LineLemmas.{ask_alone, ask_other}
use Rattle.esx_scenario.proofs.line.ask_of.Goals as goal

pub returns-then-is_empty : goal.returns-then-is_empty
returns-then-is_empty c = sym (ask_alone _ (c.is_empty.ensures.0 c.if-is_empty.true))

pub returns-else-is_empty : goal.returns-else-is_empty
returns-else-is_empty c = sym (ask_other _ (λ e. let t = c.is_empty.ensures.1 e in let f = c.if-is_empty.false in cc))
