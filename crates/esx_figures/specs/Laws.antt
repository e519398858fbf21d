-- What holds of figures.
use Rattle.std.specs.Prelude.{◌≡◌, ◌≢◌, ◌⊎◌, ◌↔◌, ℕ, ◌+◌, ◌<◌, true, List, slice_get, Option, Some, None, option_map, Ok}
use Rattle.std.specs.List.{AllPairs, Contains}
use Rattle.esx_types.specs.declared.config.TheConstants.{VM_NUMBERS}
use Rattle.esx_types.specs.declared.config.Config.{Config}
use Rattle.esx_events.specs.declared.event.Event.{Event}
use Rattle.esx_events.specs.declared.event.Answer.{Answer}
use Rattle.esx_model.specs.declared.scene.Site.{Site}
use Rattle.esx_model.specs.declared.scene.Scene.{Scene}
use Rattle.esx_model.specs.Replay.{opening, next}
use Rattle.esx_model.specs.Site.{vm_at}
use Rattle.esx_model.specs.Readings.{page_state}
use Rattle.esx_model.specs.Show.{shown}
use Rattle.esx_model.specs.sound.Sound.{IsSound}
use Rattle.esx_story.specs.Moments.{Moment, IsAt}
use Rattle.esx_figures.specs.declared.figures.Figures.{Figures}
use Rattle.esx_figures.specs.declared.steps.Step.{Step}
use Rattle.esx_figures.specs.Figures.{figures, site_at, is_same_guest}
use Rattle.esx_figures.specs.Steps.{opening_step, steps}
use Rattle.esx_figures.specs.Sharing.{shared_of, has_shared, parting, parted, joining, hosting, one_of, is_told_shared}

-- a machine is told the same twice exactly where nothing differs
abbrev pub IsSameAlike : Type 0
IsSameAlike = (a b : Option Figures) → (is_same_guest a b ≡ true) ↔ (a ≡ b)

-- how many pages of a machine an accepted event leaves in shared frames
abbrev pub IsSharingTold : Type 0
IsSharingTold = (c : Config) (t : Scene) (e : Event) (r : Answer × Scene) (n : ℕ) → IsSound c t.site → next c t e ≡ Ok r →
    shared_of r.1.site n + one_of n (parted t.site (parting e r.0)) ≡ shared_of t.site n + one_of n (joining e r.0) + one_of n (hosting t.site e)

-- the tables tell of each page whether it is in one
abbrev pub IsSharedTold : Type 0
IsSharedTold = (c : Config) (t : Scene) (n page : ℕ) → IsSound c t.site → has_shared t.site n page ≡ is_told_shared (page_state (shown c t) n page)

-- what is told of machine n, if it is there
abbrev pub told_of : Site → ℕ → Option Figures
told_of s n = option_map figures (vm_at s n)

-- with that event figures of machine n changed, and this is told of it and of the site
pub record IsGuestStep (c : Config) (ms : List Moment) (n : ℕ) (y : Step) : Type 0 where
  pub moment : Moment
  pub at : IsAt ms y.at moment
  pub number : n < VM_NUMBERS
  pub changed : told_of moment.before.site n ≢ told_of moment.after.site n
  pub guest : y.figures ≡ told_of moment.after.site n
  pub site : y.site ≡ site_at c moment.after

-- with that event figures of the site changed, and none of a machine
pub record IsSiteStep (c : Config) (ms : List Moment) (y : Step) : Type 0 where
  pub moment : Moment
  pub at : IsAt ms y.at moment
  pub guests : (n : ℕ) → n < VM_NUMBERS → told_of moment.before.site n ≡ told_of moment.after.site n
  pub changed : site_at c moment.before ≢ site_at c moment.after
  pub nobody : y.figures ≡ None
  pub site : y.site ≡ site_at c moment.after

-- a step of a machine stands exactly where its figures changed
abbrev pub AreGuestSteps : Type 0
AreGuestSteps = (c : Config) (ms : List Moment) (n : ℕ) (y : Step) → y.vm ≡ Some n → Contains (steps c ms) y ↔ IsGuestStep c ms n y

-- a step of no machine stands, past the opening, exactly where figures of the site alone changed
abbrev pub AreSiteSteps : Type 0
AreSiteSteps = (c : Config) (ms : List Moment) (y : Step) → y.vm ≡ None → 0 < y.at → Contains (steps c ms) y ↔ IsSiteStep c ms y

-- the step at 0 is that of the opening
abbrev pub IsOpeningStep : Type 0
IsOpeningStep = (c : Config) (ms : List Moment) (y : Step) → y.at ≡ 0 → Contains (steps c ms) y ↔ (y ≡ opening_step (site_at c (opening c)))

-- both are there, and the first is lower
abbrev pub IsLower : Option ℕ → Option ℕ → Type 0
IsLower (Some m) (Some n) = m < n
IsLower _ _ = ⊥

-- of an earlier event, or of the same event and a machine with a lower number
abbrev pub IsEarlier : Step → Step → Type 0
IsEarlier x y = (x.at < y.at) ⊎ ((x.at ≡ y.at) × IsLower x.vm y.vm)

-- each step is earlier than those behind it
abbrev pub DoStepsRise : Type 0
DoStepsRise = (c : Config) (ms : List Moment) → AllPairs IsEarlier (steps c ms)

-- no two are of the same event and machine
abbrev pub IsStepOnce : Type 0
IsStepOnce = (c : Config) (ms : List Moment) (j k : ℕ) (x y : Step) → slice_get (steps c ms) j ≡ Some x → slice_get (steps c ms) k ≡ Some y → x.at ≡ y.at → x.vm ≡ y.vm → j ≡ k
