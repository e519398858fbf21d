use Rattle.std.proofs.Common.{◌≡◌, ◌++◌, map, drop}
use Rattle.esx_tables.specs.declared.change.Change.TheVariants.{OfVm}
use Rattle.esx_changes.specs.Counted.{turned_from}
use Rattle.esx_changes.proofs.counted.push_turned.Given as goal

abbrev pub invariant-loop-i : goal.invariant-loop-i
invariant-loop-i l = l.changes.items ++ map (OfVm l.vm) (turned_from l.i l.page (drop l.i l.marks)) ≡ l.fn.changes.items ++ map (OfVm l.vm) (turned_from 0 l.page l.marks)
