use Rattle.std.proofs.Common.{◌≡◌, ◌<◌, length, List}
use Rattle.esx_model.specs.Tree.{Node}
use Rattle.esx_journal.specs.Row.{AreNodes}
use Rattle.esx_journal.specs.Children.{AreLinked}
use Rattle.esx_journal.proofs.ByLinks.{Walking}
use Rattle.esx_journal.proofs.row.drop_by_links.Given as goal

abbrev pub invariant-walk : goal.invariant-walk
invariant-walk l = record {
  inside : l.at < length l.rows;
  size : length l.rows ≡ length l.initial.rows;
  linked : AreLinked l.rows;
  walks : (nodes : List Node) → AreNodes l.initial.rows nodes → Walking l.initial.rows l.rows nodes l.node l.at l.gone;
}
