use Rattle.std.proofs.Common.{◌≡◌, Some}
use Rattle.esx_model.specs.History.{History, redone}
use Rattle.esx_journal.specs.Journal.{Holds}
use Rattle.esx_journal.proofs.journal.Journal.redo.Given as goal

abbrev pub invariant-descend : goal.invariant-descend
invariant-descend l = (m w : History) → Holds l.initial.self m → redone l._gone m ≡ Some w → Holds l.self w
