use Rattle.std.proofs.Common.{◌≡◌, ◌∷◌, [], ◌++◌, List, Some, take, slice_get, ap, sym, ◌∙◌}
use Rattle.std.specs.Option.{option_copied}
use Rattle.esx_types.specs.declared.table.SlotRow.{SlotRow}
use Rattle.esx_tables.proofs.Copied.{one_more_read}
use Rattle.esx_tables.proofs.copy.copy_slots.Goals as goal

pub loop-slot-preserved : goal.loop-slot-preserved
loop-slot-preserved c =
    let rows = c.args.slots.now in
    let at = c.loop-slot.slot in
    let there : slice_get rows at ≡ Some c.unwrap-row.result.now = sym c.get.ensures ∙ ap option_copied c.unwrap-row.ensures in
    c.in_ok-push.ensures.items
    ∙ ap (λ (l : List SlotRow). l ++ c.in_ok-copy_slot.field-0 ∷ []) c.loop-slot.invariant
    ∙ ap (λ (row : SlotRow). take at rows ++ row ∷ []) c.in_ok-copy_slot.ensures
    ∙ sym (one_more_read rows at c.unwrap-row.result.now there)
