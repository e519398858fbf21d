use Rattle.std.proofs.Common.{◌≡◌, option_map, string_bytes, fold}
use Rattle.toml.specs.View.{members_view}
use Rattle.esx_scenario.specs.Strange.{lesser, strange_in}
use Rattle.esx_scenario.proofs.strange.least_in.Given as goal

abbrev pub invariant-members : goal.invariant-members
invariant-members l =
    fold lesser (option_map string_bytes l.fn.least) (strange_in l.version l.place l.prefix (members_view l.table.entries))
    ≡ fold lesser (option_map string_bytes l.least) (strange_in l.version l.place l.prefix (members_view l.key-iterator))
