use Rattle.std.proofs.Common.{sym}
use Rattle.esx_scenario.proofs.StrangeLemmas.{lesser_none, lesser_less, lesser_kept}
use Rattle.esx_scenario.proofs.strange.lesser_path.Goals as goal

pub returns-in-None : goal.returns-in-None
returns-in-None c = rw c.in-None.is (sym (lesser_none _))

pub returns-then-lt : goal.returns-then-lt
returns-then-lt c = rw c.in-Some.is (sym (lesser_less _ _ (sym c.if-lt.ensures)))

pub returns-else-lt : goal.returns-else-lt
returns-else-lt c = rw c.in-Some.is (sym (lesser_kept _ _ (sym c.if-lt.ensures)))
