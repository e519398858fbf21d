use Rattle.std.proofs.Common.{◌∙◌, ◌++◌, ◌∷◌, [], sym, ap}
use Rattle.esx_tables.proofs.Copied.{one_more_read}
use Rattle.esx_journal.proofs.marks.Marks.rows.Goals as goal

pub loop-place-preserved : goal.loop-place-preserved
loop-place-preserved c = c.in_ok-push.ensures.items ∙ ap (λ xs. xs ++ c.in_ok-row.field-0 ∷ []) c.loop-place.invariant ∙ sym (one_more_read c.args.self.now c.loop-place.place c.in_ok-row.field-0 c.in_ok-row.ensures)
