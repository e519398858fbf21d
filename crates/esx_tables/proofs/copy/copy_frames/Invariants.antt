use Rattle.std.proofs.Common.{◌≡◌, take}
use Rattle.esx_tables.proofs.copy.copy_frames.Given as goal

abbrev pub invariant-loop-frame : goal.invariant-loop-frame
invariant-loop-frame l = l.copy.items ≡ take l.frame l.frames
