use Rattle.std.proofs.Common.{◌≡◌, length, ◌-◌, ◌*◌, ◌<◌, ◌^◌, drop}
use Rattle.esx_journal.specs.Marks.{number_of}
use Rattle.esx_journal.proofs.numbers.number_of.Given as goal

abbrev pub invariant-loop-done : goal.invariant-loop-done
invariant-loop-done l = (l.number ≡ number_of (drop (length l.bytes - l.done) l.bytes)) × (l.number < 2 ^ (8 * l.done))
