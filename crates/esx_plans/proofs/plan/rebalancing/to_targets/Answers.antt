use Rattle.std.proofs.Common.{rules}
use Rattle.std.proofs.lemmas.Iterator.{YieldsList-from_slice, YieldsList-from_zip, YieldsList-from_map}
use Rattle.std.proofs.lemmas.Iterator.Adapters.{items_from_extend}
use Rattle.esx_plans.specs.plan.Rebalancing.{to_target}
use Rattle.esx_plans.proofs.plan.rebalancing.to_targets.Goals as goal

pub returns : goal.returns
returns c =
    let h = items_from_extend c.extend.result c.extend.ensures.ran (YieldsList-from_map _ to_target (YieldsList-from_zip (YieldsList-from_slice c.args.rows.now cc) (YieldsList-from_slice c.args.targets.now cc)) c.map.ensures.closure (λ x r q k. search rules)) in
    search rules
