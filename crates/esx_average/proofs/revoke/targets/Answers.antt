use Rattle.std.proofs.Common.{◌≡◌, ◌+◌, ◌-◌, ◌*◌, ◌≤◌, length, slice_index, arith}
use Rattle.std.proofs.lemmas.Nat.{mul-le}
use Rattle.std.proofs.lemmas.List.{get_or_read}
use Rattle.esx_types.specs.declared.config.TheConstants.{MAX_PAGES, VM_NUMBERS}
use Rattle.esx_formulas.specs.Targets.{AreTargets}
use Rattle.esx_formulas.proofs.Revoking.{only_worked_out}
use Rattle.esx_formulas.specs.Payers.{IsFirstBelow, AreNoneBelow}
use Rattle.esx_average.proofs.RowLaws.{rows_few, spare_few}
use Rattle.esx_average.proofs.BulkLaws.{partial_bulk}
use Rattle.esx_average.proofs.ChunkLaws.{IsPartial, IsStep, partial_begins, partial_count, partial_step, partial_some, partial_ends, partial_most}
use Rattle.esx_average.proofs.revoke.targets.Goals as goal

pub spare-requires : goal.spare-requires
spare-requires c = omega (arith, spare_few c.args.rows.now c.requires.rows)

pub revoke_in_bulk-left-requires-clause-most : goal.revoke_in_bulk-left-requires-clause-most
revoke_in_bulk-left-requires-clause-most c =
    let begins : IsPartial c.args.rows.now c.args.need c.in_ok-targets.targets.items c.min-left.result =
    rw c.in_ok-targets.ensures (partial_begins c.args.rows.now c.args.need c.min-left.result (omega (arith, c.min-left.ensures, c.spare.ensures))) in
    λ i p. partial_most c.args.rows.now c.args.need c.in_ok-targets.targets.items c.min-left.result i c.requires.rows begins p

pub revoke_in_bulk-left-requires-clause-left : goal.revoke_in_bulk-left-requires-clause-left
revoke_in_bulk-left-requires-clause-left c = omega (arith, spare_few c.args.rows.now c.requires.rows, c.min-left.ensures, c.spare.ensures)

pub loop-left-init : goal.loop-left-init
loop-left-init c =
    let begins : IsPartial c.args.rows.now c.args.need c.in_ok-targets.targets.items c.min-left.result =
    rw c.in_ok-targets.ensures (partial_begins c.args.rows.now c.args.need c.min-left.result (omega (arith, c.min-left.ensures, c.spare.ensures))) in
    record {
      partial = partial_bulk c.args.rows.now c.args.need c.in_ok-targets.targets.items c.revoke_in_bulk-left.new.targets.items
          c.min-left.result c.revoke_in_bulk-left.result c.requires.rows begins
          c.revoke_in_bulk-left.ensures.few c.revoke_in_bulk-left.ensures.none c.revoke_in_bulk-left.ensures.some;
      some = omega arith;
      most = omega arith;
    }

pub overflow_cast-rows : goal.overflow_cast-rows
overflow_cast-rows c = omega (arith, rows_few c.args.rows.now c.requires.rows)

pub overflow_mul-rows : goal.overflow_mul-rows
overflow_mul-rows c =
    let most : length c.args.rows.now * (c.loop-left.chunk - 1) ≤ VM_NUMBERS * MAX_PAGES =
    mul-le (length c.args.rows.now) (c.loop-left.chunk - 1) VM_NUMBERS MAX_PAGES (rows_few c.args.rows.now c.requires.rows) (omega (arith, c.loop-left.invariant.most)) in
    omega arith

pub next_payer-requires-clause-count : goal.next_payer-requires-clause-count
next_payer-requires-clause-count c =
    rw c.as_slice.ensures.value (partial_count c.args.rows.now c.args.need c.loop-left.targets.items c.loop-left.left c.loop-left.invariant.partial)

pub next_payer-requires-clause-most : goal.next_payer-requires-clause-most
next_payer-requires-clause-most c =
    rw c.as_slice.ensures.value
    (λ i p. partial_most c.args.rows.now c.args.need c.loop-left.targets.items c.loop-left.left i c.requires.rows c.loop-left.invariant.partial p)

pub unreachable-requires : goal.unreachable-requires
unreachable-requires c =
    let none : AreNoneBelow c.args.rows.now (λ k. slice_index c.loop-left.targets.items k - (c.loop-left.chunk - 1)) (length c.args.rows.now) =
    rw c.as_slice.ensures.value at c.in_default.ensures in
    partial_some c.args.rows.now c.requires.rows c.args.need c.loop-left.targets.items c.loop-left.left (c.loop-left.chunk - 1)
    c.loop-left.invariant.partial none c.if-left-rows.false

pub loop-left-preserved : goal.loop-left-preserved
loop-left-preserved c =
    let first : IsFirstBelow c.args.rows.now (λ k. slice_index c.loop-left.targets.items k - (c.loop-left.chunk - 1)) (length c.args.rows.now) c.in-Some.payer =
    rw c.as_slice.ensures.value at c.in-Some.ensures in
    let count : length c.loop-left.targets.items ≡ length c.args.rows.now =
    partial_count c.args.rows.now c.args.need c.loop-left.targets.items c.loop-left.left c.loop-left.invariant.partial in
    let now : c.index_mut.result.now ≡ slice_index c.loop-left.targets.items c.in-Some.payer =
    get_or_read c.loop-left.targets.items c.in-Some.payer c.index_mut.result.now (omega (arith, first.within)) c.index_mut.ensures.value 0 in
    let step : IsStep c.args.rows.now c.requires.rows c.args.need c.loop-left.targets.items c.loop-left.left (c.loop-left.chunk - 1) c.in-Some.payer =
    partial_step c.args.rows.now c.requires.rows c.args.need c.loop-left.targets.items c.loop-left.left (c.loop-left.chunk - 1) c.in-Some.payer
    c.loop-left.invariant.partial first c.if-left-rows.false in
    let whole : c.loop-left.chunk - 1 + 1 ≡ c.loop-left.chunk = omega (arith, c.loop-left.invariant.some) in
    record {
      partial = rw now (rw whole at step.after);
      some = c.loop-left.invariant.some;
      most = c.loop-left.invariant.most;
    }

pub returns : goal.returns
returns c =
    let none : c.loop-left.left ≡ 0 = omega arith in
    let hold : AreTargets c.args.rows.now c.args.need c.loop-left.targets.items =
    partial_ends c.args.rows.now c.requires.rows c.args.need c.loop-left.targets.items (rw none at c.loop-left.invariant.partial) in
    record { fits = hold; value = only_worked_out c.args.rows.now c.requires.rows c.args.need c.loop-left.targets.items hold }
