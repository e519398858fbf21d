use Rattle.std.proofs.Common.{ap, sym, ◌∙◌, rules, w64}
use Rattle.std.proofs.Math.Facts.{to_z-of_z}
use Rattle.esx_scenario.specs.Keys.{integer_within}
use Rattle.esx_scenario.proofs.KeyLemmas.{within_integer, within_none}
use Rattle.esx_scenario.proofs.keys.number_within.Goals as goal

pub returns-in_err-number-clause-exact : goal.returns-in_err-number-clause-exact
returns-in_err-number-clause-exact c = rw c.from_residual.ensures (within_none _ _ _ (sym c.as_integer.ensures ∙ c.in_err-number.was))

pub returns-clause-exact : goal.returns-clause-exact
returns-clause-exact c =
    c.in_range.ensures.exact ∙ ap (integer_within c.args.least c.args.most) (to_z-of_z {w = w64} (search rules))
    ∙ within_integer _ _ _ _ (sym c.as_integer.ensures ∙ c.in_ok-number.was)
