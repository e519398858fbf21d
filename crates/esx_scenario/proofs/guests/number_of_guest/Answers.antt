use Rattle.std.proofs.Common.{sym}
use Rattle.esx_scenario.proofs.KeyLemmas.{refuses, then_ok, then_err}
use Rattle.esx_scenario.proofs.GuestLemmas.{new_number_ok, new_number_err}
use Rattle.esx_scenario.proofs.guests.number_of_guest.Goals as goal

pub returns-in_err-number-clause-exact : goal.returns-in_err-number-clause-exact
returns-in_err-number-clause-exact c = refuses _ _ _ c.from_residual.ensures.1 (then_err _ _ _ (rw c.vm_numbers.ensures at c.in_err-number.ensures.exact))

pub returns-then-has_guest-clause-exact : goal.returns-then-has_guest-clause-exact
returns-then-has_guest-clause-exact c = then_ok _ _ _ _ (rw c.vm_numbers.ensures at c.in_ok-number.ensures.exact) (new_number_err _ _ (sym c.if-has_guest.ensures))

pub returns-clause-exact : goal.returns-clause-exact
returns-clause-exact c = rw c.new.ensures.value (then_ok _ _ _ _ (rw c.vm_numbers.ensures at c.in_ok-number.ensures.exact) (new_number_ok _ _ (sym c.if-has_guest.ensures)))
