-- What each machine on a path keeps.
use Rattle.std.specs.Prelude.{◌≡◌, ℕ, ◌-◌, ◌≤◌, ◌<◌, length, Option, Some, None, ⊤}
use Rattle.std.specs.List.{AllByRecursion}
use Rattle.esx_types.specs.declared.config.Config.{Config}
use Rattle.esx_types.specs.declared.config.TheConstants.{MAX_LENGTH, MAX_SAMPLE}
use Rattle.esx_types.specs.Ranges.{IsGood}
use Rattle.esx_types.specs.declared.vm.VmState.{VmState}
use Rattle.esx_types.specs.declared.vm.VmState.TheVariants.{Starting, Running, Stopping}
use Rattle.esx_model.specs.declared.scene.Place.{Place}
use Rattle.esx_model.specs.declared.scene.Place.TheVariants.{Untouched, Here, Out, Lent}
use Rattle.esx_formulas.specs.declared.activity.Period.{Period}
use Rattle.esx_model.specs.declared.scene.Vm.{Vm}
use Rattle.esx_formulas.specs.Estimates.{IsEstimate}
use Rattle.esx_model.specs.Site.{resident, paged_out, lent}

-- the frame and the slot of a page are the site's, its bytes are a whole page, and it was lent in no later epoch
abbrev pub IsPlace : Config → ℕ → Place → Type 0
IsPlace c epoch Untouched = ⊤
IsPlace c epoch (Here bytes frame shared) = (frame < c.frames) × (length bytes ≡ c.page)
IsPlace c epoch (Out bytes slot) = (slot < c.slots) × (length bytes ≡ c.page)
IsPlace c epoch (Lent e) = e ≤ epoch

-- An open period: so many accesses of its length, none of them its last, and the pages of its machine.
pub record IsPeriod (max : ℕ) (p : Period) : Type 0 where
  pub most_length : p.length ≤ MAX_LENGTH
  pub open_still : length p.accessed < p.length
  pub least_pages : 1 ≤ length p.pages
  pub most_pages : length p.pages ≤ MAX_SAMPLE
  pub pages : AllByRecursion (λ page. page < max) p.pages
  pub accessed : AllByRecursion (λ page. page < max) p.accessed

abbrev pub IsPeriodOrNone : ℕ → Option Period → Type 0
IsPeriodOrNone max None = ⊤
IsPeriodOrNone max (Some p) = IsPeriod max p

-- A machine runs with all its overhead frames, and before that has no page anywhere and nothing open; nor has it a period when it stops.
abbrev pub FitsState : Vm → VmState → Type 0
FitsState v Starting = (length v.overhead < v.spec.overhead) × (resident v ≡ 0) × (paged_out v ≡ 0) × (lent v ≡ 0) × (v.period ≡ None)
FitsState v Running = length v.overhead ≡ v.spec.overhead
FitsState v Stopping = (length v.overhead ≤ v.spec.overhead) × (v.period ≡ None)

pub record IsVm (c : Config) (v : Vm) : Type 0 where
  pub good : IsGood v.spec
  pub pages : length v.places ≡ v.spec.max
  pub least_target : v.spec.min ≤ v.target
  pub most_target : v.target ≤ v.spec.max
  pub state : FitsState v v.state
  pub places : AllByRecursion (IsPlace c v.epoch) v.places
  -- by this a slot is free whenever one is needed
  pub out : paged_out v ≤ v.spec.max - v.spec.min
  pub lends : lent v ≤ v.spec.balloon_max
  pub closed : AllByRecursion IsEstimate v.closed
  pub period : IsPeriodOrNone v.spec.max v.period
