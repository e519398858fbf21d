use Rattle.std.proofs.Common.{◌≡◌, length}
use Rattle.esx_program.proofs.gates.gates_of.Given as goal

abbrev pub invariant-loop : goal.invariant-loop
invariant-loop g l = length l.gates.items ≡ l.counter
