use Rattle.std.proofs.Common.{true, sym, subst, arith}
use Rattle.esx_lists.proofs.Positions.{none_passes, first_found}
use Rattle.esx_prints.specs.Prints.{NoneWaits}
use Rattle.esx_prints.proofs.prints.Prints.waiting.Goals as goal

pub returns-in-None-clause-none : goal.returns-in-None-clause-none
returns-in-None-clause-none c = subst NoneWaits c.self.view_is (none_passes (λ b. b) c.self.inside.waiting true (sym c.in-None.ensures))

pub overflow_cast-result : goal.overflow_cast-result
overflow_cast-result c = let found = first_found (λ b. b) c.self.inside.waiting c.in-Some.place true (sym c.in-Some.ensures) in omega (arith, found.0, c.self.invariant.0, c.self.invariant.1)
