use Rattle.std.proofs.Common.{◌≡◌, ◌≤◌, ◌<◌, ◌+◌, ◌∙◌, ℕ, drop, ap, sym, arith, Err}
use Rattle.esx_opening.specs.Orders.{of_number}
use Rattle.esx_events.specs.declared.event.Refusal.TheVariants.{Full}
use Rattle.esx_refused.specs.Refused.{lack}
use Rattle.esx_refused.specs.Promised.{all_started, short_of_nodes}
use Rattle.esx_refused.proofs.Loops.{next_started, next_short, none_started, none_left_to_start}
use Rattle.esx_refused.proofs.starting.with_number.Goals as goal
use Rattle.esx_refused.proofs.starting.with_number.Goals.{then-from-number+else-site-made, else-from-number}

pub returns-then-site-made-clause-value : goal.returns-then-site-made-clause-value
returns-then-site-made-clause-value c =
    let x = c.guest-item.result in
    let vm : c.from.result ≡ x.vm = c.from.ensures ∙ c.number.ensures.value in
    let most = c.loop-guest.invariant.within in
    let short = c.if-site-made.true in
    let more : c.args.site.now.nodes < c.loop-guest.made + x.spec.overhead = omega (arith, most, short) in
    let told : c.lacking.result ≡ short_of_nodes c.args.site.now x =
    c.lacking.ensures ∙ ap (λ (k : ℕ). record { vm = x.vm; refusal = Full; lack = lack (k + 1) c.args.site.now.nodes }) c.from-next.ensures in
    ap Err told ∙ sym (next_short c.args.guests.now c.loop-guest.guest-index c.args.number x c.loop-guest-test.true c.guest-item.is c.args.site.now c.loop-guest.made _ c.loop-guest.invariant.left
    (sym vm ∙ c.if-from-number.true) more)

pub loop-guest-preserved : goal.loop-guest-preserved
loop-guest-preserved c =
    let site = c.args.site.now in
    let i = c.loop-guest.guest-index in
    let x = c.guest-item.result in
    let left = c.loop-guest.invariant.left in
    let most = c.loop-guest.invariant.within in
    let vm : c.from.result ≡ x.vm = c.from.ensures ∙ c.number.ensures.value in
    let same = λ (made now : ℕ) (e : now ≡ made). ap (λ (k : ℕ). all_started site k (of_number (drop (i + 1) c.args.guests.now) c.args.number)) (sym e) in
    elim c.if-from-number.branch [
      | then-from-number+else-site-made w ↦ (
          let enough = w.if-site-made.false in
          let fits : c.loop-guest.made + x.spec.overhead ≤ site.nodes = omega (arith, most, enough) in
          let is = w.made-is in
          record {
            left = next_started c.args.guests.now i _ x c.loop-guest-test.true c.guest-item.is site _ _ left (sym vm ∙ w.if-from-number.true) fits ∙ same _ _ w.made-is;
            within = omega (arith, fits, is);
          })
      | else-from-number w ↦ (let is = w.made-is in record {
        left = none_started c.args.guests.now i _ x c.loop-guest-test.true c.guest-item.is site _ _ left (λ e. w.if-from-number.false (vm ∙ e)) ∙ same _ _ w.made-is;
        within = omega (arith, most, is);
      })
    ]

pub returns-clause-value : goal.returns-clause-value
returns-clause-value c =
    sym (none_left_to_start _ c.loop-guest.made c.args.guests.now c.loop-guest.guest-index c.args.number _ c.loop-guest-test.false c.loop-guest.invariant.left)
