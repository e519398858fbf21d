use Rattle.std.proofs.Common.{◌<◌, ℕ, refl, sym, subst, arith}
use Rattle.desk_tests.proofs.plays.parts_and_meets.Goals as goal

pub split-first-requires-clause-rest : goal.split-first-requires-clause-rest
split-first-requires-clause-rest c = (let below : 0 < c.in_ok-desk.desk.callers = subst (λ (n : ℕ). 0 < n) (sym c.in_ok-desk.ensures.desk) (omega arith) in (0, c.if-not-whole.ensures.0 refl 0 below, c.single.ensures 0))
