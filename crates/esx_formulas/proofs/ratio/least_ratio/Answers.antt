use Rattle.std.proofs.Common.{ℕ, ap, ◌∙◌, length, Option, Some, None}
use Rattle.std.proofs.lemmas.List.{get_or_default}
use Rattle.esx_formulas.specs.declared.targets.Row.{Row}
use Rattle.esx_formulas.specs.Ratio.{no_row}
use Rattle.esx_formulas.specs.Targets.{first_claim}
use Rattle.esx_formulas.specs.Payers.{IsBestBelow}
use Rattle.esx_formulas.proofs.Claims.{first_found, same_machine, own_pages}
use Rattle.esx_formulas.proofs.ratio.least_ratio.Goals as goal

pub returns-in-Some-clause-value : goal.returns-in-Some-clause-value
returns-in-Some-clause-value c =
    let rows = c.args.rows.now in
    let first : IsBestBelow rows (own_pages rows) (length rows) (Some c.in-Some.payer) = c.in-Some.ensures in
    ap (λ (r : Row). let o : Option ℕ = Some r.vm in o) (get_or_default rows c.in-Some.payer c.index-rows-payer.result no_row first.within)
    ∙ same_machine rows (length rows) (Some c.in-Some.payer) (first_claim rows) first (first_found rows c.requires.rows)

pub returns-in-None-clause-value : goal.returns-in-None-clause-value
returns-in-None-clause-value c =
    let rows = c.args.rows.now in
    same_machine rows (length rows) None (first_claim rows) c.in-None.ensures (first_found rows c.requires.rows)
