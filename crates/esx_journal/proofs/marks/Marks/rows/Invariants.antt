use Rattle.std.proofs.Common.{◌≡◌, take}
use Rattle.esx_journal.proofs.marks.Marks.rows.Given as goal

abbrev pub invariant-loop-place : goal.invariant-loop-place
invariant-loop-place l = l.rows.items ≡ take l.place l.self
