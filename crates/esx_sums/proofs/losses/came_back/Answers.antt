use Rattle.std.proofs.Common.{sym, ap, ◌∙◌}
use Rattle.esx_sums.specs.declared.losses.Returns.{Returns}
use Rattle.esx_sums.specs.Losses.{with_return}
use Rattle.esx_sums.proofs.Lost.{returns_next}
use Rattle.esx_sums.proofs.losses.came_back.Goals as goal

pub loop-at-preserved : goal.loop-at-preserved
loop-at-preserved c =
    let l = c.index-losses-at.result in (
      c.with_return-sums.ensures.value ∙ ap (λ (s : Returns). with_return c.args.vm c.args.life s l) c.loop-at.invariant.0
          ∙ sym (returns_next c.args.vm c.args.life c.args.losses.now c.loop-at._at l c.loop-at-test.true c.index-losses-at.is),
      c.with_return-sums.ensures.few c.loop-at._at c.loop-at.invariant.1,
    )
