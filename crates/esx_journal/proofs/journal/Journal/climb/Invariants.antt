use Rattle.std.proofs.Common.{◌+◌, ◌<◌, ◌≤◌, length}
use Rattle.esx_model.specs.History.{History}
use Rattle.esx_journal.specs.Journal.{Holds}
use Rattle.esx_journal.proofs.Sinking.{Climbing}
use Rattle.esx_journal.proofs.journal.Journal.climb.Given as goal

abbrev pub invariant-climb : goal.invariant-climb
invariant-climb l = record { within : l.at < length l.self.rows; count : l.down + l.at ≤ l.node; climbs : (h : History) → Holds l.initial.self h → Climbing h l.node l.self l.at l.down }

abbrev pub decreases-climb : goal.decreases-climb
decreases-climb l = l.self.cursor + l.at
