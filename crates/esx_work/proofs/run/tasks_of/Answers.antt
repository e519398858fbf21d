use Rattle.std.proofs.Common.{◌≡◌, ◌∙◌, ◌+◌, ◌<◌, ℕ, Some, ap, length, length-append, slice_get, refl}
use Rattle.esx_work.specs.declared.run.Task.{Task}
use Rattle.esx_work.proofs.Meets.{left_on, first_left, end_on}
use Rattle.esx_work.proofs.run.tasks_of.Goals as goal

pub loop-preserved : goal.loop-preserved
loop-preserved g c =
    let inv = c.loop.invariant in
    let i = c.loop.counter in
    let n = c.len-count.result in
    let lt : i < n = c.loop-test.true in
    let passes = left_on c.args.passes.items c.loop.passes.items c.remove.new.self.items i n c.remove.ensures.items inv.0 lt inv.4 in
    let gates = left_on c.args.gates.items c.loop.gates.items c.remove-in-loop.new.self.items i n c.remove-in-loop.ensures.items inv.1 lt inv.5 in
    let workers = left_on c.args.workers.items c.loop.workers.items c.remove-in-loop-2.new.self.items i n c.remove-in-loop-2.ensures.items inv.2 lt inv.6 in
    let items = c.in_ok-push.ensures.items in (
      passes.0,
      gates.0,
      workers.0,
      ap length items ∙ (length-append c.loop.tasks.items _ ∙ ap (λ (k : ℕ). k + 1) inv.3),
      passes.1,
      gates.1,
      workers.1,
      end_on (λ (j : ℕ) (t : Task g.row.G.Denot). (slice_get c.args.passes.items j ≡ Some t.pass) × (slice_get c.args.gates.items j ≡ Some t.gate) × (slice_get c.args.workers.items j ≡ Some t.worker) × (t.turns ≡ c.args.turns))
          c.loop.tasks.items c.push.new.self.items _ i items inv.3 (
            first_left c.args.passes.items c.loop.passes.items i n c.remove.result inv.0 lt inv.4 c.remove.ensures.value,
            first_left c.args.gates.items c.loop.gates.items i n c.remove-in-loop.result inv.1 lt inv.5 c.remove-in-loop.ensures.value,
            first_left c.args.workers.items c.loop.workers.items i n c.remove-in-loop-2.result inv.2 lt inv.6 c.remove-in-loop-2.ensures.value,
            refl,
          ) inv.7,
    )
