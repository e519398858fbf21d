use Rattle.std.proofs.Common.{◌≡◌, drop, option_map, string_bytes, fold}
use Rattle.toml.specs.View.{items_view}
use Rattle.esx_scenario.specs.Strange.{lesser, strange_from}
use Rattle.esx_scenario.proofs.strange.least_of_guests.Given as goal

abbrev pub invariant-loop-place : goal.invariant-loop-place
invariant-loop-place l =
    fold lesser (option_map string_bytes l.fn.least) (strange_from l.version 0 (items_view l.values))
    ≡ fold lesser (option_map string_bytes l.least) (strange_from l.version l.place (items_view (drop l.place l.values)))
