-- The scenario of a text.
use Rattle.std.specs.Prelude.{ℕ, List, ◌≡◌, ◌==◌, codes, Some, None, Ok, Err, string_bytes, if◌then◌else◌}
use Rattle.toml.specs.Data.{Members, get_member}
use Rattle.toml.specs.Parse.{parse_document}
use Rattle.esx_types.specs.declared.version.Version.{Version}
use Rattle.esx_types.specs.declared.version.Version.TheVariants.{One, Two}
use Rattle.esx_reading.specs.declared.fault.TextFault.{TextFault}
use Rattle.esx_reading.specs.declared.fault.TextFault.TheVariants.{NotToml, BadKey, OutOfMemory}
use Rattle.esx_scenario.specs.Plans.{Plan}
use Rattle.esx_scenario.specs.Keys.{Tried, ◌>>=◌, required, table_at}
use Rattle.esx_scenario.specs.Sites.{site_at, settings_at}
use Rattle.esx_scenario.specs.Guests.{guests_at}
use Rattle.esx_scenario.specs.Strange.{strange, least, none_strange}

-- the version that is told as 1 or 2
abbrev pub version_of : ℕ → Version
version_of n = if n == 1 then One else Two

abbrev pub version_in : Members → Tried Version
version_in t = do
  number ← required t (codes "version") 1 2
  Ok (version_of number)

-- The scenario of a table, or the first key that is bad. Keys that no scenario of its version has come last.
abbrev pub scenario_in : Members → Tried Plan
scenario_in t = do
  version ← version_in t
  site ← site_at (table_at t (codes "machine"))
  settings ← settings_at (get_member (codes "run") t)
  guests ← guests_at version site (get_member (codes "vm") t)
  none ← none_strange (least (strange version t))
  Ok (record { site = site; settings = settings; guests = guests })

-- The table is the text's, and it is that scenario's.
abbrev pub IsScenario : List ℕ → Plan → Type 0
IsScenario text plan = (t : Members) × (parse_document text ≡ Some t) × (scenario_in t ≡ Ok plan)

-- Why a text is no scenario: it is no TOML, or the first bad key of its table has that path; or memory ran out.
abbrev pub IsRefused : List ℕ → TextFault → Type 0
IsRefused text NotToml = parse_document text ≡ None
IsRefused text (BadKey path) = (t : Members) × (parse_document text ≡ Some t) × (scenario_in t ≡ Err (string_bytes path))
IsRefused text OutOfMemory = Unit {0}
IsRefused text _ = ⊥
