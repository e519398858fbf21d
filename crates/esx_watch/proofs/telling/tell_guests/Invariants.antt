use Rattle.std.proofs.Common.{◌≡◌, ◌++◌, ◌+◌, ◌≤◌}
use Rattle.std.specs.Prelude.{vec_len, vec_capacity}
use Rattle.esx_figures.specs.Steps.{guests_told}
use Rattle.esx_watch.proofs.telling.tell_guests.Given as goal

abbrev pub invariant-loop-number : goal.invariant-loop-number
invariant-loop-number l = record {
  told : l.steps.items ≡ l.initial.steps.items ++ guests_told l.at l.site l.before l.after l.number;
  len : vec_len l.steps ≤ vec_len l.initial.steps + l.number;
  capacity : vec_capacity l.steps ≡ vec_capacity l.initial.steps;
}
