-- Keys that no scenario of a version has.
use Rattle.std.specs.Prelude.{ℕ, Bool, ◌+◌, ◌++◌, ◌∷◌, [], List, fold, codes, Option, Some, None, Ok, Err, if◌then◌else◌}
use Rattle.std.specs.Ordering.{nat_cmp, is_lt}
use Rattle.std.specs.Cmp.Lexicographic.{slice_cmp}
use Rattle.std.specs.List.{list_any}
use Rattle.std.specs.Option.{option_and_then}
use Rattle.std.specs.Str.{bytes_eq}
use Rattle.toml.specs.Data.{table, Items, no_items, item, Members, no_members, member, get_member, as_array}
use Rattle.esx_types.specs.declared.version.Version.{Version}
use Rattle.esx_types.specs.Versions.{has_own_taxes}
use Rattle.esx_scenario.specs.Keys.{Tried, table_at}
use Rattle.esx_scenario.specs.Guests.{vm_path}
use Rattle.esx_scenario.specs.declared.strange.Place.{Place}
use Rattle.esx_scenario.specs.declared.strange.Place.TheVariants.{Top, Machine, Run, Vm}

-- the key of a machine's own tax, in a version that has such
abbrev pub own_tax : Version → List (List ℕ)
own_tax version = if has_own_taxes version then codes "tau" ∷ [] else []

-- the keys that a table may have
abbrev pub known : Version → Place → List (List ℕ)
known version Top = codes "version" ∷ codes "machine" ∷ codes "run" ∷ codes "vm" ∷ []
known version Machine = codes "frames" ∷ codes "page" ∷ codes "slots" ∷ codes "tau" ∷ codes "high" ∷ codes "soft" ∷ codes "hard" ∷ codes "low" ∷ codes "nodes" ∷ []
known version Run = codes "seed" ∷ codes "turns" ∷ codes "sample" ∷ codes "length" ∷ []
known version Vm = codes "id" ∷ codes "min" ∷ codes "max" ∷ codes "overhead" ∷ codes "shares" ∷ codes "balloon" ∷ codes "trace" ∷ own_tax version

abbrev pub is_known : Version → Place → List ℕ → Bool
is_known version place key = list_any (bytes_eq key) (known version place)

-- the paths of the others in a table that stands under a path
unfoldable pub strange_in : Version → Place → List ℕ → Members → List (List ℕ)
strange_in version place prefix no_members = []
strange_in version place prefix (member key d ms) =
    if is_known version place key then strange_in version place prefix ms else (prefix ++ key) ∷ strange_in version place prefix ms

-- those in a table that may be there
unfoldable pub strange_at : Version → Place → List ℕ → Option Members → List (List ℕ)
strange_at version place prefix None = []
strange_at version place prefix (Some t) = strange_in version place prefix t

-- those in the tables of the machines from a place on
unfoldable pub strange_from : Version → ℕ → Items → List (List ℕ)
strange_from version i no_items = []
strange_from version i (item (table t) ds) = strange_in version Vm (vm_path i) t ++ strange_from version (i + 1) ds
strange_from version i (item _ ds) = strange_from version (i + 1) ds

unfoldable pub strange_vms : Version → Option Items → List (List ℕ)
strange_vms version None = []
strange_vms version (Some ds) = strange_from version 0 ds

-- the paths of all keys that no scenario of the version has
abbrev pub strange : Version → Members → List (List ℕ)
strange version t =
    strange_in version Top [] t
    ++ strange_at version Machine (codes "machine.") (table_at t (codes "machine"))
    ++ strange_at version Run (codes "run.") (table_at t (codes "run"))
    ++ strange_vms version (option_and_then as_array (get_member (codes "vm") t))

-- the lesser of two paths, in the order of bytes
unfoldable pub lesser : Option (List ℕ) → List ℕ → Option (List ℕ)
lesser None path = Some path
lesser (Some least) path = if is_lt (slice_cmp nat_cmp path least) then Some path else Some least

-- the least of some paths
abbrev pub least : List (List ℕ) → Option (List ℕ)
least = fold lesser None

-- the least path is bad, if there is one
unfoldable pub none_strange : Option (List ℕ) → Tried Unit
none_strange None = Ok tt
none_strange (Some path) = Err path
