use Rattle.std.proofs.Common.{◌≡◌, map}
use Rattle.std.specs.List.{range_with_len}
use Rattle.esx_model.specs.Show.{slot_row}
use Rattle.esx_plain.proofs.show.slot_rows.Given as goal

abbrev pub invariant-loop-slot : goal.invariant-loop-slot
invariant-loop-slot l = l.rows ≡ map (slot_row l.site) (range_with_len 0 l.slot)
