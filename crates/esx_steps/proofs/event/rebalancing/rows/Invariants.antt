use Rattle.std.proofs.Common.{◌≡◌, ◌++◌, drop}
use Rattle.esx_model.specs.event.Rebalancing.{rows_from, rows_of, min_of}
use Rattle.esx_steps.proofs.event.rebalancing.rows.Given as goal

abbrev pub invariant-loop-number : goal.invariant-loop-number
invariant-loop-number l = l.rows.items ++ rows_from l.site.tau min_of l.number (drop l.number l.site.vms) ≡ rows_of min_of l.site
