use Rattle.std.proofs.Common.{◌≡◌, ◌≤◌, true, length}
use Rattle.esx_model.specs.History.{History}
use Rattle.esx_model.specs.Branching.{stands}
use Rattle.esx_journal.specs.Journal.{Aims}
use Rattle.esx_journal.specs.Ways.{Climbed}
use Rattle.esx_journal.proofs.Sinking.{sunk}
use Rattle.esx_journal.proofs.journal.Journal.goto.Given as goal

abbrev pub invariant-descend : goal.invariant-descend
invariant-descend l = (h : History) (c : Climbed h l.node l.initial.self l.down) → stands h l.node ≡ true → l.node ≤ length h.nodes → Aims l.self (sunk h l.node l.initial.self l.down c l._gone) c.aim
