use Rattle.esx_model.specs.declared.book.VmRow.{VmRow}
use Rattle.esx_changes.specs.Activity.{IsTold}
use Rattle.esx_plans.proofs.Loops.{each_used}
use Rattle.esx_plans.proofs.plan.ratios.ratio_rows.Goals as goal

pub rows_of-requires-clause-periods : goal.rows_of-requires-clause-periods
rows_of-requires-clause-periods c = each_used (λ (v : VmRow). IsTold v.period) c.machines.result.now c.args.tables.now.vms c.machines.ensures c.requires.periods
