-- What holds of sums.
use Rattle.std.specs.Prelude.{◌≡◌, ℕ, ◌+◌, ◌≤◌, List, ◌∷◌, length, Ok}
use Rattle.esx_types.specs.declared.config.Config.{Config}
use Rattle.esx_types.specs.Ranges.{IsConfig}
use Rattle.esx_events.specs.declared.event.Event.{Event}
use Rattle.esx_model.specs.declared.scene.Scene.{Scene}
use Rattle.esx_model.specs.declared.scene.Site.{Site}
use Rattle.esx_model.specs.Replay.{run}
use Rattle.esx_model.specs.sound.Sound.{IsSound}
use Rattle.esx_story.specs.declared.story.Loss.{Loss}
use Rattle.esx_story.specs.Moments.{Moment, moments}
use Rattle.esx_story.specs.Counts.{came_in, lost_in}
use Rattle.esx_sums.specs.declared.level.Levels.{Levels}
use Rattle.esx_sums.specs.Extremes.{least, most, IsFirstLeast, IsFirstMost}
use Rattle.esx_sums.specs.Few.{AreSmall}
use Rattle.esx_sums.specs.Lives.{lives}
use Rattle.esx_story.specs.Waits.{Met}
use Rattle.esx_sums.specs.Rows.{guest}
use Rattle.esx_sums.specs.Site.{levels}
use Rattle.esx_sums.specs.Sums.{all_present}

-- what a machine gained in a life is what it lost in it and what it has at the end: nothing, where the life is over
abbrev pub DoGuestsAddUp : Type 0
DoGuestsAddUp = (c : Config) (es : List Event) (t : Scene) (mets : List Met) (losses : List Loss) (n l : ℕ) → IsConfig c → run c es ≡ Ok t → l ≤ lives n (moments c es) →
    came_in (guest c (moments c es) mets losses n l).counts ≡ (guest c (moments c es) mets losses n l).here + lost_in (guest c (moments c es) mets losses n l).counts

-- after each event one of the levels stands
abbrev pub all_events : Levels → ℕ
all_events s = s.high.events + s.soft.events + s.hard.events + s.low.events

abbrev pub AreAllEvents : Type 0
AreAllEvents = (ms : List Moment) → all_events (levels ms) ≡ length ms

-- what is told as the least and the most is so, and first so there
abbrev pub IsLeastFirst : Type 0
IsLeastFirst = (v : ℕ) (vs : List ℕ) → IsFirstLeast (v ∷ vs) (least v vs)

abbrev pub IsMostFirst : Type 0
IsMostFirst = (v : ℕ) (vs : List ℕ) → IsFirstMost (v ∷ vs) (most v vs)

-- of a sound site no machine has more pages than any may have
abbrev pub IsPresentSmall : Type 0
IsPresentSmall = (c : Config) (s : Site) → IsSound c s → AreSmall (all_present s)
