use Rattle.std.proofs.Common.{◌<◌, length}
use Rattle.esx_model.specs.History.{History}
use Rattle.esx_journal.specs.Journal.{Holds}
use Rattle.esx_journal.proofs.Moves.{Looked}
use Rattle.esx_journal.proofs.journal.Journal.may_redo.Given as goal

abbrev pub invariant-look : goal.invariant-look
invariant-look l = record { within : l.at < length l.self.rows; looks : (m : History) → Holds l.self m → Looked m l._gone l.at }
