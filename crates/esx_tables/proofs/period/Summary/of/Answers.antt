use Rattle.std.proofs.Common.{arith}
use Rattle.std.proofs.lemmas.Grind.{common_steps}
use Rattle.esx_tables.proofs.Summed.{pages_more}
use Rattle.esx_tables.proofs.period.Summary.of.Goals as goal
use Rattle.esx_tables.proofs.period.Summary.of.Goals.{then-mark, else-mark}

pub loop-mark-preserved : goal.loop-mark-preserved
loop-mark-preserved c =
    let more = pages_more c.loop-mark.summary c.add_page.new.self c.args.marks.now c.loop-mark.mark-index _ (omega arith) c.loop-mark.invariant.pages c.add_page.ensures.pages in
    elim c.if-mark.branch [
      | then-mark w ↦ rw w.summary-is (record { pages = more; touched = grind (arith, common_steps, c.add_page.ensures.touched) })
      | else-mark w ↦ rw w.summary-is (record { pages = more; touched = grind (arith, common_steps, c.add_page.ensures.touched) })
    ]
