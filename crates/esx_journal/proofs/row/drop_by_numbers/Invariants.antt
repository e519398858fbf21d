use Rattle.std.proofs.Common.{◌≡◌, ◌<◌, ◌+◌, ℕ, length, List}
use Rattle.esx_model.specs.Tree.{Node}
use Rattle.esx_journal.specs.Rows.{Row}
use Rattle.esx_journal.specs.Row.{AreNodes, Lost}
use Rattle.esx_journal.specs.Children.{AreLinked}
use Rattle.esx_journal.proofs.ByNumbers.{Passing}
use Rattle.esx_journal.proofs.row.drop_by_numbers.Given as goal

abbrev pub invariant-pass : goal.invariant-pass
invariant-pass l = record {
  later : l.node < l.at;
  size : length l.rows ≡ length l.fn.rows;
  linked : AreLinked l.rows;
  passes : (old : List Row) (nodes : List Node) (gone : ℕ) → AreNodes old nodes → Lost gone old l.fn.rows nodes l.node
      → Passing old l.rows nodes l.node l.at (gone + l.gone);
}
