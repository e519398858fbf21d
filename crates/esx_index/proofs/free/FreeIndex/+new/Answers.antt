use Rattle.std.proofs.Common.{sym, arith, ◌∙◌}
use Rattle.esx_index.proofs.Marks.{places_first, has_mark_first}
use Rattle.esx_index.proofs.IndexLemmas.{index_new}
use Rattle.esx_index.proofs.free.FreeIndex.+new.Goals as goal
use Rattle.esx_index.proofs.free.FreeIndex.+new.Goals.{then-len-gt1+in_ok-index+in_ok-new, else-len-gt1}

pub invariant_of-result : goal.invariant_of-result
invariant_of-result t c =
    index_new _ _ _ c.in_ok-words.ensures (omega arith)
    (elim c.if-len-gt1.branch [
      | then-len-gt1+in_ok-index+in_ok-new w ↦ let a = w.in_ok-new.ensures in let b = w.in_ok-index.ensures in rw w.above-is (omega arith, a.ok ∙ (b ∙ (rw (w.len-then-len-gt1.ensures ∙ c.in_ok-words.words.ok.0) (sym (has_mark_first _ _ c.in_ok-words.ensures)))))
      | else-len-gt1 w ↦ rw w.above-is (omega arith)
    ])

pub returns : goal.returns
returns t c = places_first _ _ c.in_ok-words.ensures
