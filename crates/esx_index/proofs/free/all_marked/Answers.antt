use Rattle.esx_index.proofs.Marks.{first_whole, first_part}
use Rattle.esx_index.proofs.free.all_marked.Goals as goal
use Rattle.esx_index.proofs.free.all_marked.Goals.{then-len-ne0, else-len-ne0}

pub returns : goal.returns
returns c =
    let full = c.in_ok-words.ensures.items_if_clones_equal (λ y e. e) in
    elim c.if-len-ne0.branch [
      | then-len-ne0 w ↦ rw (w.words-is, full) (first_part _ _ _ w.if-len-ne0.true c.div_ceil.ensures w.first_marked.ensures)
      | else-len-ne0 w ↦ rw (w.words-is, full) (first_whole _ _ w.if-len-ne0.false c.div_ceil.ensures)
    ]
