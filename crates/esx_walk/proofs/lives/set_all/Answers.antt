use Rattle.std.proofs.Common.{ℕ, refl, ap, ◌∙◌, arith, set, Option, Some}
use Rattle.esx_story.specs.declared.change.Asked.{Asked}
use Rattle.esx_walk.specs.declared.lives.Life.{Life}
use Rattle.esx_walk.specs.Account.{no_life, life_in, set_life}
use Rattle.esx_walk.proofs.Lists.{set_step, all_changed}
use Rattle.esx_walk.proofs.lives.set_all.Goals as goal

pub loop-number-init : goal.loop-number-init
loop-number-init c = (refl, c.len-number-end.ensures)

pub loop-number-preserved : goal.loop-number-preserved
loop-number-preserved c =
    let at = c.args.at in
    let n = c.loop-number.number in
    let f : ℕ → Life → Life = set_life at c.args.answer.now c.args.given.now in
    let long = c.len-number-end.ensures in
    let below = c.loop-number-test.true in (
      c.set.ensures ∙ ap (λ (o : Option Asked). set c.loop-number.lives n (record c.life_at-life.result { set = Some at; asked = o })) c.asked_for-asked.ensures
          ∙ ap (λ (l : Life). set c.loop-number.lives n (f n l)) c.life_at-life.ensures ∙ ap (λ xs. set xs n (f n (life_in xs n))) c.loop-number.invariant.0
          ∙ set_step f no_life c.args.lives.now n (omega (arith, long, below)),
      c.len-number-end.ensures,
    )

pub returns : goal.returns
returns c =
    let long = c.len-number-end.ensures in
    let past = c.loop-number-test.false in
    c.loop-number.invariant.0 ∙ all_changed (set_life c.args.at c.args.answer.now c.args.given.now) c.args.lives.now c.loop-number.number (omega (arith, long, past))
