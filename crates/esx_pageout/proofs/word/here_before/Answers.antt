use Rattle.std.proofs.Common.{◌+◌, arith, ap, ◌∙◌}
use Rattle.esx_pageout.proofs.Draws.{none_more, one_more}
use Rattle.esx_pageout.proofs.word.here_before.Goals as goal
use Rattle.esx_pageout.proofs.word.here_before.Goals.{then-is_here, else-is_here}

pub loop-earlier-preserved : goal.loop-earlier-preserved
loop-earlier-preserved c = elim c.if-is_here.branch [
  | then-is_here w ↦ record {
    few = omega (arith, c.loop-earlier.invariant.few, w.count-is);
    is = λ scene v shows there below.
        w.count-is ∙ ap (λ k. k + 1) (c.loop-earlier.invariant.is scene v shows there below)
        ∙ one_more v.places c.loop-earlier.earlier c.is_here.result (omega (arith, c.loop-earlier-test.true, below)) (c.is_here.ensures scene v shows there) w.if-is_here.true;
  }
  | else-is_here w ↦ record {
    few = omega (arith, c.loop-earlier.invariant.few, w.count-is);
    is = λ scene v shows there below.
        w.count-is ∙ c.loop-earlier.invariant.is scene v shows there below
        ∙ none_more v.places c.loop-earlier.earlier c.is_here.result (omega (arith, c.loop-earlier-test.true, below)) (c.is_here.ensures scene v shows there) w.if-is_here.false;
  }
]
