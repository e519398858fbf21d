use Rattle.std.proofs.Common.{◌≡◌, ◌≤◌, [], drop, length}
use Rattle.std.specs.List.{All}
use Rattle.toml.specs.View.{items_view}
use Rattle.esx_scenario.specs.Plans.{AreDistinct, IsGuest}
use Rattle.esx_scenario.specs.Guests.{guests_from}
use Rattle.esx_scenario.proofs.guests.guests_of_tables.Given as goal

abbrev pub invariant-loop-value : goal.invariant-loop-value
invariant-loop-value l = record {
  exact : guests_from l.version l.site [] (items_view l.values) ≡ guests_from l.version l.site l.guests (items_view (drop l.value-index l.values));
  each : All (IsGuest l.site) l.guests;
  distinct : AreDistinct l.guests;
  count : length l.guests ≤ l.value-index;
}
