-- What holds of losses and gains.
use Rattle.std.specs.Prelude.{◌≡◌, ◌↔◌, ℕ, ◌+◌, ◌<◌, ◌==◌, Bool, not, List, filter, slice_get, option_map, Option, Some, Ok}
use Rattle.esx_types.specs.declared.config.Config.{Config}
use Rattle.esx_types.specs.Ranges.{IsConfig}
use Rattle.esx_events.specs.declared.event.Event.{Event}
use Rattle.esx_events.specs.declared.event.Answer.{Answer}
use Rattle.esx_events.specs.declared.call.Help.TheVariants as helps
use Rattle.esx_formulas.specs.declared.targets.Row.{Row}
use Rattle.esx_formulas.specs.Ratio.{claim}
use Rattle.esx_formulas.specs.Targets.{first_claim}
use Rattle.esx_model.specs.declared.scene.Vm.{Vm}
use Rattle.esx_model.specs.declared.scene.Site.{Site}
use Rattle.esx_model.specs.declared.scene.Scene.{Scene}
use Rattle.esx_model.specs.Site.{vm_at, resident}
use Rattle.esx_model.specs.Replay.{next, run}
use Rattle.esx_model.specs.Advice.{target_of, help_by}
use Rattle.esx_model.specs.event.Rebalancing.{rows_of}
use Rattle.esx_model.specs.sound.Sound.{IsSound}
use Rattle.esx_story.specs.Changes.{How, Change, change, has_here, resident_of}
use Rattle.esx_story.specs.Moments.{moments, Line}
use Rattle.esx_story.specs.Losses.{lost, Loses, IsLoss, losses}
use Rattle.esx_story.specs.Gains.{gained, Gains, IsGain, gains}
use Rattle.esx_story.specs.Counts.{came_in, lost_in, counts}
use Rattle.esx_story.specs.Order.{rank, next_row}

-- a page of some machine, some way
abbrev pub Names : Option Change → ℕ → ℕ → Type 0
Names o n page = (how : How) × (o ≡ Some (change n page how))

-- what is lost in an accepted event is what its answer tells
abbrev pub IsLossTold : Type 0
IsLossTold = (c : Config) (t : Scene) (e : Event) (r : Answer × Scene) (n page : ℕ) → IsSound c t.site → next c t e ≡ Ok r →
    Loses t.site r.1.site n page ↔ Names (lost e r.0 t.site) n page

-- so at most one page is
abbrev pub IsOneLost : Type 0
IsOneLost = (c : Config) (t : Scene) (e : Event) (r : Answer × Scene) (n page m other : ℕ) → IsSound c t.site → next c t e ≡ Ok r →
    Loses t.site r.1.site n page → Loses t.site r.1.site m other → (n ≡ m) × (page ≡ other)

-- what is gained is the page that it brings
abbrev pub IsGainTold : Type 0
IsGainTold = (c : Config) (t : Scene) (e : Event) (r : Answer × Scene) (n page : ℕ) → IsSound c t.site → next c t e ≡ Ok r →
    Gains t.site r.1.site n page ↔ Names (gained e t.site) n page

abbrev pub IsOneGained : Type 0
IsOneGained = (c : Config) (t : Scene) (e : Event) (r : Answer × Scene) (n page m other : ℕ) → IsSound c t.site → next c t e ≡ Ok r →
    Gains t.site r.1.site n page → Gains t.site r.1.site m other → (n ≡ m) × (page ≡ other)

-- all other pages stay here, or away
abbrev pub DoOthersStay : Type 0
DoOthersStay = (c : Config) (t : Scene) (e : Event) (r : Answer × Scene) (n page : ℕ) → IsSound c t.site → next c t e ≡ Ok r →
    (Names (lost e r.0 t.site) n page → ⊥) → (Names (gained e t.site) n page → ⊥) → has_here r.1.site n page ≡ has_here t.site n page

-- what a machine gained since it was last admitted is what it lost and what it has
abbrev pub AddsUp : Type 0
AddsUp = (c : Config) (es : List Event) (t : Scene) (n : ℕ) → IsConfig c → run c es ≡ Ok t →
    came_in (counts n (moments c es)) ≡ resident_of t.site n + lost_in (counts n (moments c es))

-- it stands in the list so, or some way
abbrev pub IsListedAs : List Line → ℕ → ℕ → ℕ → How → Type 0
IsListedAs lines i n page how = (k : ℕ) × (slice_get lines k ≡ Some (record { at = i; change = change n page how }))

abbrev pub IsListed : List Line → ℕ → ℕ → ℕ → Type 0
IsListed lines i n page = (how : How) × IsListedAs lines i n page how

-- each line is of a later event than those before it, so none stands twice
abbrev pub IsRising : List Line → Type 0
IsRising lines = (j k : ℕ) (x y : Line) → j < k → slice_get lines j ≡ Some x → slice_get lines k ≡ Some y → x.at < y.at

-- the losses that are listed of a path are its losses, each once, in order
abbrev pub AreLossesListed : Type 0
AreLossesListed = (c : Config) (es : List Event) (t : Scene) → IsConfig c → run c es ≡ Ok t →
    ((i n page : ℕ) → IsLoss (moments c es) i n page ↔ IsListed (losses (moments c es)) i n page) × IsRising (losses (moments c es))

abbrev pub AreGainsListed : Type 0
AreGainsListed = (c : Config) (es : List Event) (t : Scene) → IsConfig c → run c es ≡ Ok t →
    ((i n page : ℕ) → IsGain (moments c es) i n page ↔ IsListed (gains (moments c es)) i n page) × IsRising (gains (moments c es))

-- the machine of rank 1 is the one that advice names, wherever it names one
abbrev pub IsFirstAdvised : Type 0
IsFirstAdvised = (c : Config) (s : Site) (n : ℕ) (above_min : Bool) → IsSound c s →
    (rank s n ≡ Some 1) ↔ (help_by above_min (first_claim (rows_of target_of s)) ≡ helps.SwapOut n)

-- the machine that comes next is the one that comes first among the others
abbrev pub IsNextFirst : Type 0
IsNextFirst = (s : Site) (n : ℕ) → option_map (λ (row : Row). claim row row.pages) (next_row s n) ≡ first_claim (filter (λ (row : Row). not (row.vm == n)) (rows_of target_of s))

-- a machine has a rank where it has more pages in frames than its target
abbrev pub IsRanked : Type 0
IsRanked = (s : Site) (n : ℕ) → ((k : ℕ) × (rank s n ≡ Some k)) ↔ ((v : Vm) × (vm_at s n ≡ Some v) × (v.target < resident v))
