use Rattle.std.proofs.Common.{sym, refl}
use Rattle.esx_scenario.proofs.KeyLemmas.{then_ok, then_err}
use Rattle.esx_scenario.proofs.GuestLemmas.{gives_err, below_ok, below_err, at_key_some, at_key_none}
use Rattle.esx_scenario.proofs.guests.guest_of.Goals as goal

pub returns-in-Err-clause-exact : goal.returns-in-Err-clause-exact
returns-in-Err-clause-exact c = gives_err _ _ _ (below_err _ _ _ (then_err _ _ _ c.in-Err.ensures.exact)) c.bad_vm_key.ensures

pub returns-in-Err-spec_of-clause-exact : goal.returns-in-Err-spec_of-clause-exact
returns-in-Err-spec_of-clause-exact c = gives_err _ _ _ (below_err _ _ _ (then_ok _ _ _ _ c.in-Ok.ensures.exact (then_err _ _ _ c.in-Err-spec_of.ensures.exact))) c.bad_vm_key-in-Err-spec_of.ensures

pub returns-in-Ok-Some-clause-exact : goal.returns-in-Ok-Some-clause-exact
returns-in-Ok-Some-clause-exact c =
    let found = rw (c.member.ensures, c.in-Ok-Some.field-0-is) at c.in-Ok-Some.ensures.exact in
    below_ok _ _ _ (then_ok _ _ _ _ c.in-Ok.ensures.exact (then_ok _ _ _ _ c.in-Ok-spec_of.ensures.exact (then_ok _ _ _ _ (at_key_some _ _ _ (sym found)) refl)))

pub returns-in-Ok-None-clause-exact : goal.returns-in-Ok-None-clause-exact
returns-in-Ok-None-clause-exact c =
    let found = rw (c.member.ensures, c.in-Ok-None.field-0-is) at c.in-Ok-None.ensures.exact in
    gives_err _ _ _ (below_err _ _ _ (then_ok _ _ _ _ c.in-Ok.ensures.exact (then_ok _ _ _ _ c.in-Ok-spec_of.ensures.exact (then_err _ _ _ (at_key_none _ _ (sym found)))))) c.bad_vm_key-in-Ok-None.ensures
