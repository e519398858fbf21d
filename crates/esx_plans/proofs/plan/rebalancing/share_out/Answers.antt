use Rattle.std.proofs.Common.{◌≡◌, List, sum_by, ap, ◌∙◌, arith}
use Rattle.esx_average.proofs.RowLaws.{spare_few}
use Rattle.esx_formulas.specs.declared.targets.Row.{Row}
use Rattle.esx_formulas.specs.Targets.{spare}
use Rattle.esx_plans.specs.plan.Ratios.{ratio_rows, least_of}
use Rattle.esx_plans.proofs.plan.rebalancing.share_out.Goals as goal

pub spare-requires : goal.spare-requires
spare-requires c =
    let few = spare_few (ratio_rows least_of c.args.tables.now) c.requires.ratios.rows in
    let same : c.as_slice-4.result.now ≡ ratio_rows least_of c.args.tables.now = c.as_slice-4.ensures.value ∙ c.in_ok-rows.ensures in
    omega (arith, few, ap (λ (rows : List Row). sum_by spare rows) same)
