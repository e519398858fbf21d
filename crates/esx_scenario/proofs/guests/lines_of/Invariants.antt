use Rattle.std.proofs.Common.{◌≡◌, ◌≤◌, [], drop, length}
use Rattle.std.specs.List.{All}
use Rattle.toml.specs.View.{items_view}
use Rattle.esx_scenario.specs.Lines.{IsWithin}
use Rattle.esx_scenario.specs.Guests.{lines_from}
use Rattle.esx_scenario.proofs.guests.lines_of.Given as goal

abbrev pub invariant-loop-value : goal.invariant-loop-value
invariant-loop-value l = record {
  exact : lines_from l.size l.pages [] (items_view l.values) ≡ lines_from l.size l.pages l.lines (items_view (drop l.value-index l.values));
  within : All (IsWithin l.size l.pages) l.lines;
  count : length l.lines ≤ l.value-index;
}
