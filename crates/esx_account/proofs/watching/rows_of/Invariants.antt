use Rattle.std.proofs.Common.{◌≡◌, map, take}
use Rattle.esx_account.specs.Watching.{step_row}
use Rattle.esx_account.proofs.watching.rows_of.Given as goal

abbrev pub invariant-loop-step : goal.invariant-loop-step
invariant-loop-step l = l.rows.items ≡ map (step_row l.waypoints) (take l.step-index l.steps)
