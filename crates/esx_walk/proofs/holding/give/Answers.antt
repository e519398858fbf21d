use Rattle.std.proofs.Common.{ℕ, ◌-◌, get_or, set, ap, ◌∙◌, arith}
use Rattle.esx_model.specs.Site.{vm_at}
use Rattle.esx_story.specs.Waits.{left}
use Rattle.esx_walk.proofs.Lists.{set_step}
use Rattle.esx_walk.proofs.holding.give.Goals as goal

pub loop-number-preserved : goal.loop-number-preserved
loop-number-preserved c = record {
  held = λ scene shows. (
      let n = c.loop-number.number in
      let f : ℕ → ℕ → ℕ = λ m k. k - left (vm_at scene.site m) in
      let long = c.len-number-end.ensures in
      let below = c.loop-number-test.true in
      let now = c.loop-number.held in
      c.set.ensures
      ∙ ap (λ k. set now n k) (c.saturating_sub-left.ensures ∙ ap (λ k. k - c.target_of-target.result) c.number_at.ensures ∙ ap (λ t. get_or now n 0 - t) (c.target_of-target.ensures scene shows))
      ∙ ap (λ xs. set xs n (f n (get_or xs n 0))) (c.loop-number.invariant.held scene shows)
      ∙ set_step f 0 c.args.held.now n (omega (arith, long, below)));
  end = c.len-number-end.ensures;
}
