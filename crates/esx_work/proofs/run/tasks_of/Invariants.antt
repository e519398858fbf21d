use Rattle.std.proofs.Common.{◌≡◌, ◌+◌, ℕ, Some, length, slice_get}
use Rattle.esx_work.proofs.run.tasks_of.Given as goal

abbrev pub invariant-loop : goal.invariant-loop
invariant-loop g l =
    (length l.passes.items + l.counter ≡ l.count)
    × (length l.gates.items + l.counter ≡ l.count)
    × (length l.workers.items + l.counter ≡ l.count)
    × (length l.tasks.items ≡ l.counter)
    × ((j : ℕ) (p : _) → slice_get l.passes.items j ≡ Some p → slice_get l.initial.passes.items (l.counter + j) ≡ Some p)
    × ((j : ℕ) (p : _) → slice_get l.gates.items j ≡ Some p → slice_get l.initial.gates.items (l.counter + j) ≡ Some p)
    × ((j : ℕ) (p : _) → slice_get l.workers.items j ≡ Some p → slice_get l.initial.workers.items (l.counter + j) ≡ Some p)
    × ((j : ℕ) (t : _) → slice_get l.tasks.items j ≡ Some t → (slice_get l.initial.passes.items j ≡ Some t.pass) × (slice_get l.initial.gates.items j ≡ Some t.gate) × (slice_get l.initial.workers.items j ≡ Some t.worker) × (t.turns ≡ l.turns))
