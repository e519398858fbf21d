use Rattle.std.proofs.Common.{◌≡◌, ◌+◌}
use Rattle.esx_model.specs.History.{History, undone}
use Rattle.esx_journal.specs.Journal.{Holds}
use Rattle.esx_journal.proofs.journal.Journal.undo.Given as goal

abbrev pub invariant-climb : goal.invariant-climb
invariant-climb l = record { deep : l.self.depth + l._gone ≡ l.initial.self.depth; holds : (m : History) → Holds l.initial.self m → Holds l.self (undone l._gone m) }
