use Rattle.std.proofs.Common.{◌≡◌, filter, take}
use Rattle.esx_account.specs.Choosing.{is_asked}
use Rattle.esx_account.proofs.choosing.chosen.Given as goal

abbrev pub invariant-loop-line : goal.invariant-loop-line
invariant-loop-line l = l.chosen.items ≡ filter (is_asked l.vm l.page) (take l.line-index l.lines)
