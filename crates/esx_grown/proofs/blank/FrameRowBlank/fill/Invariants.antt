use Rattle.std.proofs.Common.{◌≡◌, ◌≤◌, ◌-◌, ◌++◌, length, replicate, vec_capacity}
use Rattle.esx_types.specs.declared.table.FrameRow.TheVariants.{Free}
use Rattle.esx_grown.proofs.blank.FrameRowBlank.fill.Given as goal

abbrev pub invariant-loop : goal.invariant-loop
invariant-loop l =
    let had = length l.initial.rows.items in
    (l.rows.items ≡ l.initial.rows.items ++ replicate (l.counter - had) Free)
    × ((l.counter - had ≤ l.fn.count - had) × (vec_capacity l.rows ≡ vec_capacity l.initial.rows))
