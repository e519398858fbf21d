use Rattle.std.proofs.Common.{◌∷◌, [], sym, ◌∙◌, refl, arith, length-append}
use Rattle.std.proofs.lemmas.List.Elements.{All-append, All-cons, All-nil}
use Rattle.esx_scenario.specs.Plans.{IsGuest}
use Rattle.esx_scenario.proofs.KeyLemmas.{then_ok}
use Rattle.esx_scenario.proofs.GuestLemmas.{item_here, no_item_here, gives_err, gives_on, guest_stop, guests_kind, guests_more, guests_end, one_more, pushed}
use Rattle.esx_scenario.proofs.guests.guests_of_tables.Goals as goal

pub returns-in_default-clause-exact : goal.returns-in_default-clause-exact
returns-in_default-clause-exact c =
    let here = item_here c.args.values.now c.loop-value.value-index c.value-item.result c.value-item.is c.loop-value-test.true in
    gives_err _ _ _ (c.loop-value.invariant.exact ∙ guests_kind _ _ _ _ _ _ here c.in_default.ensures) c.bad_key.ensures

pub returns-in_err-guest-clause-exact : goal.returns-in_err-guest-clause-exact
returns-in_err-guest-clause-exact c =
    let here = item_here c.args.values.now c.loop-value.value-index c.value-item.result c.value-item.is c.loop-value-test.true in
    gives_on _ _ _ c.from_residual.ensures.1
    (guest_stop _ _ _ _ _ _ _ _ _ c.in_err-guest.field-0.0 c.loop-value.invariant.exact here c.in-Some.ensures c.as_slice.ensures c.in_err-guest.ensures.exact)

pub loop-value-preserved : goal.loop-value-preserved
loop-value-preserved c =
    let here = item_here c.args.values.now c.loop-value.value-index c.value-item.result c.value-item.is c.loop-value-test.true in
    let good = IsGuest c.args.site.now in
    let grown = pushed c.push.result (sym c.if-is_err.ensures.value) c.push.ensures.ok in
    record {
      exact = c.loop-value.invariant.exact ∙ guests_more _ _ _ _ _ _ _ here c.in-Some.ensures ∙ then_ok _ _ _ _ (rw c.as_slice.ensures at c.in_ok-guest.ensures.exact) (rw grown refl);
      each = rw grown (All-append good c.loop-value.guests (c.in_ok-guest.guest ∷ []) c.loop-value.invariant.each (All-cons good c.in_ok-guest.guest [] c.in_ok-guest.ensures.good.0 (All-nil good)));
      distinct = one_more _ _ _ grown c.loop-value.invariant.distinct (rw c.as_slice.ensures at c.in_ok-guest.ensures.good.1);
      count = rw grown (omega (arith, c.loop-value.invariant.count, length-append c.loop-value.guests (c.in_ok-guest.guest ∷ [])));
    }

pub returns-clause-exact : goal.returns-clause-exact
returns-clause-exact c = c.loop-value.invariant.exact ∙ guests_end _ _ _ _ (no_item_here _ _ c.loop-value-test.false)
