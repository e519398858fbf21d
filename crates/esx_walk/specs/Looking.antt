-- What is seen of a machine before an event that may take a page of it.
use Rattle.std.specs.Prelude.{◌≡◌, ℕ, ◌<◌, ◌≤◌, List, [], length, slice_index_or, Option, Some, None, if◌then◌else◌, Result}
use Rattle.esx_types.specs.declared.config.Config.{Config}
use Rattle.esx_types.specs.declared.config.TheConstants.{VM_NUMBERS}
use Rattle.esx_events.specs.declared.event.Event.{Event}
use Rattle.esx_events.specs.declared.event.Event.TheVariants.{Lend, SwapOut, Replace, DropPage}
use Rattle.esx_events.specs.declared.event.Refusal.{Refusal}
use Rattle.esx_events.specs.declared.call.PageState.{PageState}
use Rattle.esx_model.specs.declared.scene.Scene.{Scene}
use Rattle.esx_model.specs.declared.scene.Vm.{Vm}
use Rattle.esx_model.specs.Site.{vm_at}
use Rattle.esx_story.specs.declared.story.Seen.{Seen}
use Rattle.esx_story.specs.Readings.{is_told_here}
use Rattle.esx_story.specs.Story.{seen}

-- the machine that an event may take a page of, by where the page that it names was
abbrev pub losing : Event → Result PageState Refusal → Option ℕ
losing (SwapOut n word) before = Some n
losing (Replace n page word) before = Some n
losing (Lend n page) before = if is_told_here before then Some n else None
losing (DropPage n page) before = if is_told_here before then Some n else None
losing _ before = None

-- it was looked at, and each of its pages has a place
pub record IsLookedAt (c : Config) (t : Scene) (n : ℕ) (rows : List (List ℕ)) (s : Option Seen) : Type 0 where
  pub seen : s ≡ Some (seen c t n)
  pub places : (v : Vm) → vm_at t.site n ≡ Some v → v.spec.max ≤ length (slice_index_or rows n [])

abbrev pub IsPrepared : Config → Scene → Option ℕ → List (List ℕ) → Option Seen → Type 0
IsPrepared c t losing rows s = (n : ℕ) → losing ≡ Some n → IsLookedAt c t n rows s
