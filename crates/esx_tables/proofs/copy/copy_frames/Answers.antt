use Rattle.std.proofs.Common.{◌≡◌, ◌∷◌, [], ◌++◌, List, Some, take, slice_get, ap, sym, ◌∙◌}
use Rattle.std.specs.Option.{option_copied}
use Rattle.esx_types.specs.declared.table.FrameRow.{FrameRow}
use Rattle.esx_tables.proofs.Copied.{one_more_read}
use Rattle.esx_tables.proofs.copy.copy_frames.Goals as goal

pub loop-frame-preserved : goal.loop-frame-preserved
loop-frame-preserved c =
    let rows = c.args.frames.now in
    let at = c.loop-frame.frame in
    let there : slice_get rows at ≡ Some c.unwrap-row.result.now = sym c.get.ensures ∙ ap option_copied c.unwrap-row.ensures in
    c.in_ok-push.ensures.items
    ∙ ap (λ (l : List FrameRow). l ++ c.in_ok-copy_frame.field-0 ∷ []) c.loop-frame.invariant
    ∙ ap (λ (row : FrameRow). take at rows ++ row ∷ []) c.in_ok-copy_frame.ensures
    ∙ sym (one_more_read rows at c.unwrap-row.result.now there)
