-- Laws of how: a page changed its place so that it left its frame where the event lost it, and so that it came into one where the event gained it, and nowhere else.
use Rattle.std.specs.Prelude.{◌≡◌, ◌↔◌, ℕ, true, false, List, Some, Ok}
use Rattle.esx_types.specs.declared.config.Config.{Config}
use Rattle.esx_types.specs.Ranges.{IsConfig}
use Rattle.esx_events.specs.declared.event.Event.{Event}
use Rattle.esx_model.specs.declared.scene.Scene.{Scene}
use Rattle.esx_model.specs.Replay.{next, run}
use Rattle.esx_model.specs.sound.Sound.{IsSound}
use Rattle.esx_story.specs.Changes.{How, change, has_here, is_leaving, is_coming}
use Rattle.esx_story.specs.Moments.{Moment, moments}
use Rattle.esx_story.specs.Losses.{lost_at, losses}
use Rattle.esx_story.specs.Gains.{gained_at, gains}
use Rattle.esx_story.specs.Spots.{changed, IsChange}
use Rattle.esx_story.specs.Laws.{IsListedAs}

-- the event of a moment is accepted in its scene, which is sound, and leads on to the next
abbrev pub IsAcceptedMoment : Config → Moment → Type 0
IsAcceptedMoment c x = IsSound c x.before.site × (next c x.before x.event ≡ Ok (x.answer, x.after))

-- what an event lost, some way, is what left its frame, and left it so
abbrev pub IsLossHow : Type 0
IsLossHow = (c : Config) (x : Moment) (n page : ℕ) (how : How) → IsAcceptedMoment c x →
    (lost_at x ≡ Some (change n page how)) ↔ ((changed x n page ≡ Some how) × (is_leaving how ≡ true))

-- what an event gained, some way, is what came into a frame, and came so
abbrev pub IsGainHow : Type 0
IsGainHow = (c : Config) (x : Moment) (n page : ℕ) (how : How) → IsAcceptedMoment c x →
    (gained_at x ≡ Some (change n page how)) ↔ ((changed x n page ≡ Some how) × (is_coming how ≡ true))

-- a page that neither left its frame nor came into one, by how it changed its place if it did, is here after the event where it was before
abbrev pub IsOtherHow : Type 0
IsOtherHow = (c : Config) (x : Moment) (n page : ℕ) → IsAcceptedMoment c x → ((how : How) → changed x n page ≡ Some how → (is_leaving how ≡ false) × (is_coming how ≡ false)) →
    has_here x.after.site n page ≡ has_here x.before.site n page

-- the losses that are listed of a path are its changes of place by which pages leave frames
abbrev pub AreLossesChanges : Type 0
AreLossesChanges = (c : Config) (es : List Event) (t : Scene) (i n page : ℕ) (how : How) → IsConfig c → run c es ≡ Ok t →
    IsListedAs (losses (moments c es)) i n page how ↔ (IsChange (moments c es) i n page how × (is_leaving how ≡ true))

-- and the gains those by which pages come into them
abbrev pub AreGainsChanges : Type 0
AreGainsChanges = (c : Config) (es : List Event) (t : Scene) (i n page : ℕ) (how : How) → IsConfig c → run c es ≡ Ok t →
    IsListedAs (gains (moments c es)) i n page how ↔ (IsChange (moments c es) i n page how × (is_coming how ≡ true))
