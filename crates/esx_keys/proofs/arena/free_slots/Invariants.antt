use Rattle.std.proofs.Common.{◌≡◌, length}
use Rattle.esx_keys.specs.Arena.{AreFree}
use Rattle.esx_keys.proofs.arena.free_slots.Given as goal

abbrev pub invariant-loop-at : goal.invariant-loop-at
invariant-loop-at l = record { count : length l.slots.items ≡ l.at; free : AreFree l.slots.items }
