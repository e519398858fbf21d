use Rattle.std.proofs.Common.{ℕ, List, ap, ◌∙◌}
use Rattle.esx_formulas.specs.declared.targets.Row.{Row}
use Rattle.esx_formulas.specs.Targets.{first_claim}
use Rattle.esx_model.specs.declared.book.VmRow.{VmRow}
use Rattle.esx_plans.specs.plan.Ratios.{ratio_row}
use Rattle.esx_plans.proofs.Loops.{made_of_used, each_used}
use Rattle.esx_machine.specs.Questions.{IsReadable, target_rows}
use Rattle.esx_machine.proofs.advice.first_row.Goals as goal

pub first_of-requires-clause-each : goal.first_of-requires-clause-each
first_of-requires-clause-each c = each_used IsReadable c.machines.result.now c.args.tables.now.vms c.machines.ensures c.requires.each

pub returns : goal.returns
returns c =
    let tau : ℕ = c.args.tables.now.tau in
    let same = made_of_used (ratio_row tau (λ (w : VmRow). w.target)) c.machines.result.now c.args.tables.now.vms c.machines.ensures in
    c.first_of.ensures
    ∙ ap (λ (k : ℕ). first_claim (target_rows k 0 c.machines.result.now)) c.tau.ensures
    ∙ ap (λ (rows : List Row). first_claim rows) same
