use Rattle.std.proofs.Common.{◌≡◌, ◌+◌, ◌∙◌, Bool, true, List, drop, ap, sym, subst}
use Rattle.esx_scenario.specs.declared.plan.Guest.{Guest}
use Rattle.esx_opening.specs.Orders.{of_number}
use Rattle.esx_refused.specs.declared.coming.Promised.{Promised}
use Rattle.esx_refused.specs.Promised.{AreWithin, all_promised}
use Rattle.esx_refused.proofs.Loops.{next_admitted, none_admitted, next_refused, none_left}
use Rattle.esx_refused.proofs.coming.with_number.Goals as goal
use Rattle.esx_refused.proofs.coming.with_number.Goals.{then-from-number+in-Ok, else-from-number}

pub loop-guest-preserved : goal.loop-guest-preserved
loop-guest-preserved c =
    let site = c.args.site.now in
    let i = c.loop-guest.guest-index in
    let x = c.guest-item.result in
    let left = c.loop-guest.invariant.left in
    let vm : c.from.result ≡ x.vm = c.from.ensures ∙ c.number.ensures.value in
    let later : List Guest = of_number (drop (i + 1) c.args.guests.now) c.args.number in
    let same = λ (t : Promised) (u : Promised) (a : Bool) (b : Bool) (e : t ≡ u) (f : a ≡ b). ap (λ (p : Promised). all_promised site p b later) (sym e) ∙ ap (λ (y : Bool). all_promised site t y later) (sym f) in
    elim c.if-from-number.branch [
      | then-from-number+in-Ok w ↦ record {
        left = next_admitted c.args.guests.now i _ x c.loop-guest-test.true c.guest-item.is site _ _ _ left (sym vm ∙ w.if-from-number.true) w.in-Ok.after w.in-Ok.ensures.value
            ∙ same _ _ _ true w.now-is w.there-is;
        within = subst (λ (p : Promised). AreWithin site p) (sym w.now-is) w.in-Ok.ensures.within;
      }
      | else-from-number w ↦ record {
        left = none_admitted c.args.guests.now i _ x c.loop-guest-test.true c.guest-item.is site _ _ _ left (λ e. w.if-from-number.false (vm ∙ e)) ∙ same _ _ _ _ w.now-is w.there-is;
        within = subst (λ (p : Promised). AreWithin site p) (sym w.now-is) c.loop-guest.invariant.within;
      }
    ]

pub returns-in-Err-clause-value : goal.returns-in-Err-clause-value
returns-in-Err-clause-value c =
    let vm : c.from.result ≡ c.guest-item.result.vm = c.from.ensures ∙ c.number.ensures.value in
    sym (next_refused c.args.guests.now c.loop-guest.guest-index c.args.number c.guest-item.result c.loop-guest-test.true c.guest-item.is c.args.site.now c.loop-guest.now c.loop-guest.there _
    c.loop-guest.invariant.left (sym vm ∙ c.if-from-number.true) c.in-Err.first c.in-Err.ensures.value)

pub returns-clause-value : goal.returns-clause-value
returns-clause-value c =
    sym (none_left _ c.loop-guest.now c.loop-guest.there c.args.guests.now c.loop-guest.guest-index c.args.number _ c.loop-guest-test.false c.loop-guest.invariant.left)
