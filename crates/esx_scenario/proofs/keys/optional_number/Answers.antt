use Rattle.std.proofs.Common.{arith}
use Rattle.esx_scenario.proofs.KeyLemmas.{optional_found, optional_default, optional_unfit}
use Rattle.esx_scenario.proofs.keys.optional_number.Goals as goal
use Rattle.esx_scenario.proofs.keys.optional_number.Goals.{else-least-default-via-then-least-default+else-default-most, else-least-default-via-else-least-default}

pub returns-in-Some-clause-exact : goal.returns-in-Some-clause-exact
returns-in-Some-clause-exact c = optional_found _ c.args.key _ _ _ _ c.number_within.result _ c.in-Some.ensures c.number_within.ensures.exact c.ok_or.ensures.value

pub returns-then-default-most-clause-exact : goal.returns-then-default-most-clause-exact
returns-then-default-most-clause-exact c = optional_default _ _ _ _ _ c.in-None.ensures c.if-least-default.true c.if-default-most.true

pub returns-else-least-default-clause-exact : goal.returns-else-least-default-clause-exact
returns-else-least-default-clause-exact c =
    optional_unfit _ _ _ _ _ c.in-None.ensures
    (elim c.else-least-default.branch [
      | else-least-default-via-then-least-default+else-default-most w ↦ grind arith
      | else-least-default-via-else-least-default w ↦ grind arith
    ])
