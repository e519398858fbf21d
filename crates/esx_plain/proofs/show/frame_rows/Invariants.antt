use Rattle.std.proofs.Common.{◌≡◌, map}
use Rattle.std.specs.List.{range_with_len}
use Rattle.esx_model.specs.Show.{frame_row}
use Rattle.esx_plain.proofs.show.frame_rows.Given as goal

abbrev pub invariant-loop-frame : goal.invariant-loop-frame
invariant-loop-frame l = l.rows ≡ map (frame_row l.site) (range_with_len 0 l.frame)
