use Rattle.std.proofs.Common.{◌≡◌, take}
use Rattle.esx_tables.proofs.copy.copy_slots.Given as goal

abbrev pub invariant-loop-slot : goal.invariant-loop-slot
invariant-loop-slot l = l.copy.items ≡ take l.slot l.slots
