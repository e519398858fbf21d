use Rattle.std.proofs.Common.{◌≡◌, length, slice_index, arith}
use Rattle.std.proofs.lemmas.List.{get_or_read}
use Rattle.esx_formulas.specs.Targets.{AreTargets}
use Rattle.esx_formulas.specs.Payers.{IsFirstBelow}
use Rattle.esx_formulas.proofs.TargetLaws.{targets_begin, targets_step, targets_stay}
use Rattle.esx_formulas.proofs.Revoking.{only_worked_out}
use Rattle.esx_formulas.proofs.targets.targets.Goals as goal

pub loop-taken-init : goal.loop-taken-init
loop-taken-init c = rw c.in_ok-targets.ensures (targets_begin c.args.rows.now)

pub returns-in-None : goal.returns-in-None
returns-in-None c =
    let hold : AreTargets c.args.rows.now c.args.need c.loop-taken.targets.items =
    targets_stay c.args.rows.now c.requires.rows c.loop-taken.taken c.args.need c.loop-taken.targets.items c.loop-taken.invariant
    (rw c.as_slice.ensures.value at c.in-None.ensures) (omega arith) in
    record { fits = hold; value = only_worked_out c.args.rows.now c.requires.rows c.args.need c.loop-taken.targets.items hold }

pub returns-clause-value : goal.returns-clause-value
returns-clause-value c =
    let all : c.loop-taken.taken ≡ c.args.need = omega (arith, c.loop-taken-test.false, c.loop-taken.auto.taken-end) in
    only_worked_out c.args.rows.now c.requires.rows c.args.need c.loop-taken.targets.items (rw all at c.loop-taken.invariant)

pub loop-taken-preserved : goal.loop-taken-preserved
loop-taken-preserved c =
    let first : IsFirstBelow c.args.rows.now (λ k. slice_index c.loop-taken.targets.items k) (length c.args.rows.now) c.in-Some.payer =
    rw c.as_slice.ensures.value at c.in-Some.ensures in
    let now : c.index_mut.result.now ≡ slice_index c.loop-taken.targets.items c.in-Some.payer =
    get_or_read c.loop-taken.targets.items c.in-Some.payer c.index_mut.result.now (omega (arith, first.within, c.loop-taken.invariant.count)) c.index_mut.ensures.value 0 in
    rw now (targets_step c.args.rows.now c.requires.rows c.loop-taken.taken c.loop-taken.targets.items c.in-Some.payer c.loop-taken.invariant first)
