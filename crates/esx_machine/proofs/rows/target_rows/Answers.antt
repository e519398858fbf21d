use Rattle.std.proofs.Common.{◌≡◌, ℕ, List, ap, subst, ◌∙◌}
use Rattle.std.specs.Result.{IfOk}
use Rattle.esx_formulas.specs.declared.targets.Row.{Row}
use Rattle.esx_plans.proofs.Loops.{each_used, made_of_used}
use Rattle.esx_machine.specs.Questions.{IsReadable, target_row, target_rows}
use Rattle.esx_machine.proofs.rows.target_rows.Goals as goal

pub rows_of-requires-clause-each : goal.rows_of-requires-clause-each
rows_of-requires-clause-each c = each_used IsReadable c.machines.result.now c.args.tables.now.vms c.machines.ensures c.requires.each

pub returns : goal.returns
returns c =
    let tau : ℕ = c.args.tables.now.tau in
    let P : List Row → Type 0 = λ all. IfOk c.rows_of.result (λ rows. rows.items ≡ all) in
    let same : target_rows c.tau.result 0 c.machines.result.now ≡ target_rows tau 0 c.args.tables.now.vms =
    ap (λ (k : ℕ). target_rows k 0 c.machines.result.now) c.tau.ensures ∙ made_of_used (target_row tau) c.machines.result.now c.args.tables.now.vms c.machines.ensures in
    subst P same c.rows_of.ensures
