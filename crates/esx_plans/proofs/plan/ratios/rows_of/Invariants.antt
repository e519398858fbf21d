use Rattle.std.proofs.Common.{◌≡◌, ◌++◌, drop}
use Rattle.esx_plans.specs.plan.Ratios.{numbered, ratio_row, least_of}
use Rattle.esx_plans.proofs.plan.ratios.rows_of.Given as goal

abbrev pub invariant-loop-number : goal.invariant-loop-number
invariant-loop-number l = l.rows.items ++ numbered (ratio_row l.tau least_of) l.number (drop l.number l.vms) ≡ numbered (ratio_row l.tau least_of) 0 l.vms
