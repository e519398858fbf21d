use Rattle.std.proofs.Common.{◌≡◌, ◌≤◌, ◌++◌, Ok, map, length, vec_capacity}
use Rattle.esx_work.proofs.run.parted.Given as goal

abbrev pub invariant-loop-one : goal.invariant-loop-one
invariant-loop-one g l =
    (goal.iterator-loop-one g).can_next l.one-iterator
    × (goal.iterator-loop-one g).is_finite l.one-iterator
    × (l.yielded ++ l.one-iterator.rest.items ≡ l.fn.finished.items)
    × (l.passes.items ≡ map (λ f. f.pass) l.yielded)
    × (map Ok l.ends.items ≡ map (λ f. f.ended) l.yielded)
    × (l.gates.items ≡ map (λ f. f.gate) l.yielded)
    × (length l.fn.finished.items ≤ vec_capacity l.passes)
    × (length l.fn.finished.items ≤ vec_capacity l.ends)
    × (length l.fn.finished.items ≤ vec_capacity l.gates)
