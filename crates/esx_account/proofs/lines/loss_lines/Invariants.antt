use Rattle.std.proofs.Common.{take}
use Rattle.esx_account.specs.Lines.{AreLinesOf}
use Rattle.esx_account.proofs.lines.loss_lines.Given as goal

abbrev pub invariant-loop-loss : goal.invariant-loop-loss
invariant-loop-loss l = AreLinesOf l.waypoints (take l.loss-index l.losses) l.lines.items
