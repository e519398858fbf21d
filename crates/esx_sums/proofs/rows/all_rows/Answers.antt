use Rattle.std.proofs.Common.{◌≡◌, ap, sym, ◌∙◌, arith}
use Rattle.esx_types.specs.declared.config.TheConstants.{VM_NUMBERS}
use Rattle.esx_sums.specs.Rows.{of_each, machine_rows}
use Rattle.esx_sums.proofs.RowsMade.{no_rows, rows_next}
use Rattle.esx_sums.proofs.rows.all_rows.Goals as goal

pub loop-number-init : goal.loop-number-init
loop-number-init c = c.new-rows.ensures.items ∙ sym (no_rows (machine_rows c.args.now.now c.args.past.now c.args.present.now c.args.losses.now))

pub loop-number-preserved : goal.loop-number-preserved
loop-number-preserved c =
    rows_next c.args.now.now c.args.past.now c.args.present.now c.args.losses.now c.loop-number.number c.machine-vm.result c.tally_at-tally.result c.present_at.result
    c.loop-number.rows.items _ _ c.machine-vm.ensures c.tally_at-tally.ensures c.present_at.ensures c.in_ok-add_past.ensures c.in_ok-add_last.ensures c.loop-number.invariant

pub returns : goal.returns
returns c =
    let past = c.loop-number-test.false in
    let end : c.loop-number.number ≡ VM_NUMBERS = omega (arith, past) in
    c.loop-number.invariant ∙ ap (of_each (machine_rows c.args.now.now c.args.past.now c.args.present.now c.args.losses.now)) end
