use Rattle.std.proofs.Common.{sym, ap, subst, ◌∙◌, take, arith}
use Rattle.esx_sums.specs.declared.losses.LevelLosses.{LevelLosses}
use Rattle.esx_sums.specs.Losses.{with_loss, AreFewLosses}
use Rattle.esx_sums.proofs.Lost.{losses_next, losses_few, few_taken}
use Rattle.esx_sums.proofs.losses.level_losses.Goals as goal

pub with_loss-sums-requires : goal.with_loss-sums-requires
with_loss-sums-requires c =
    let P : LevelLosses → Type 0 = AreFewLosses 4294967294 in
    let below = c.loop-at-test.true in
    let short = c.requires in
    subst P (sym c.loop-at.invariant) (losses_few c.args.level (take c.loop-at._at c.args.losses.now) 4294967294 (few_taken c.args.losses.now c.loop-at._at (omega (arith, below, short))))

pub loop-at-preserved : goal.loop-at-preserved
loop-at-preserved c =
    let l = c.index-losses-at.result in
    c.with_loss-sums.ensures ∙ ap (λ (s : LevelLosses). with_loss s l) c.loop-at.invariant ∙ sym (losses_next c.args.level c.args.losses.now c.loop-at._at l c.loop-at-test.true c.index-losses-at.is)
