use Rattle.std.proofs.Common.{sym, arith}
use Rattle.esx_scenario.proofs.LineLemmas.{take_back_found, take_back_missing}
use Rattle.esx_scenario.proofs.line.take_back_of.Goals as goal

pub returns-in_err-page : goal.returns-in_err-page
returns-in_err-page c = rw c.from_residual.ensures (sym (take_back_missing _ c.in_err-page.ensures.none))

pub returns : goal.returns
returns c = sym (take_back_found _ _ (omega arith) c.in_ok-page.ensures.some)
