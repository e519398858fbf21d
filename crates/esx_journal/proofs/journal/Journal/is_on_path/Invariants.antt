use Rattle.std.proofs.Common.{◌≡◌, ◌<◌, length, List}
use Rattle.esx_model.specs.Tree.{Move, on_way}
use Rattle.esx_model.specs.History.{History, cursor}
use Rattle.esx_journal.specs.Journal.{Aims}
use Rattle.esx_journal.proofs.journal.Journal.is_on_path.Given as goal

abbrev pub invariant-climb : goal.invariant-climb
invariant-climb l = record { within : l.at < length l.self.rows; same : (h : History) (aim : List Move) → Aims l.self h aim → on_way h.nodes (cursor h) l.node ≡ on_way h.nodes l.at l.node }

abbrev pub decreases-climb : goal.decreases-climb
decreases-climb l = l.at
