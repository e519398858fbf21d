use Rattle.std.proofs.Common.{◌≡◌, ◌≤◌, ◌++◌, [], length}
use Rattle.esx_console.specs.Unlogged.{AnswersAs}
use Rattle.esx_check.specs.Again.{made, replies_again}
use Rattle.esx_check.specs.Checks.{replies_told}
use Rattle.esx_check.specs.Gates.{PassedFor}
use Rattle.esx_check.proofs.check.check_calls.Given as goal

abbrev pub invariant-loop-entry : goal.invariant-loop-entry
invariant-loop-entry g l = record {
  can_next : (goal.iterator-loop-entry g).can_next l.entry-iterator;
  is_finite : (goal.iterator-loop-entry g).is_finite l.entry-iterator;
  console : AnswersAs l.again.console (made l.fn.site l.yielded);
  same : replies_again l.fn.site l.yielded ≡ replies_told l.yielded;
  count : l.count ≡ length l.yielded;
  few : l.again.console.jumps ≤ l.count;
  held : l.again.held ≡ [];
  gate : PassedFor g.G.Gate.passes l.count l.initial.gate l.gate;
  split : l.fn.entries.items ≡ l.yielded ++ l.entry-iterator.rest.items;
}
