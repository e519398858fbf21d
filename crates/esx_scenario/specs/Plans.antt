-- What a scenario says, and the ranges that it keeps.
use Rattle.std.specs.Prelude.{ℕ, List, ◌≡◌, ◌==◌, ◌<◌, ◌≤◌, ◌^◌, Bool, false, length, ◌∷◌, []}
use Rattle.std.specs.List.{All, list_any}
use Rattle.esx_types.specs.declared.config.Config.{Config}
use Rattle.esx_types.specs.declared.config.TheConstants.{MAX_LENGTH, MAX_SAMPLE, VM_NUMBERS}
use Rattle.esx_types.specs.Ranges.{IsConfig, IsGood}
use Rattle.esx_scenario.specs.declared.plan.Settings.{Settings}
use Rattle.esx_scenario.specs.declared.plan.Guest.{Guest}
use Rattle.esx_scenario.specs.declared.plan.TheConstants.{MAX_TURNS}
use Rattle.esx_scenario.specs.declared.guests.TheConstants.{MOST_LINES}
use Rattle.esx_scenario.specs.Lines.{IsWithin}

-- a site, what the workers are told, and the virtual machines in the order of the text
pub record Plan : Type 0 where
  pub site : Config
  pub settings : Settings
  pub guests : List Guest

pub record IsSettings (s : Settings) : Type 0 where
  pub most_seed : s.seed < 2 ^ 63
  pub least_turns : 1 ≤ s.turns
  pub most_turns : s.turns ≤ MAX_TURNS
  pub least_sample : 1 ≤ s.sample
  pub most_sample : s.sample ≤ MAX_SAMPLE
  pub least_length : 1 ≤ s.length
  pub most_length : s.length ≤ MAX_LENGTH

-- a virtual machine of a site
pub record IsGuest (site : Config) (g : Guest) : Type 0 where
  pub spec : IsGood g.spec
  pub short : length g.trace ≤ MOST_LINES
  pub within : All (IsWithin site.page g.spec.max) g.trace

-- one of the machines has the number
abbrev pub has_number : List Guest → ℕ → Bool
has_number guests n = list_any (λ g. g.vm == n) guests

-- no two have one number
abbrev pub AreDistinct : List Guest → Type 0
AreDistinct [] = Unit {0}
AreDistinct (g ∷ gs) = (has_number gs g.vm ≡ false) × AreDistinct gs

pub record IsPlan (p : Plan) : Type 0 where
  pub site : IsConfig p.site
  pub settings : IsSettings p.settings
  pub few : length p.guests ≤ VM_NUMBERS
  pub guests : All (IsGuest p.site) p.guests
  pub distinct : AreDistinct p.guests
