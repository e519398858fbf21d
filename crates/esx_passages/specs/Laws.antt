-- What holds of changes of place.
use Rattle.std.specs.Prelude.{◌≡◌, ◌↔◌, ℕ, ◌<◌, ◌≤◌, List, slice_get, Some, Ok}
use Rattle.esx_types.specs.declared.config.Config.{Config}
use Rattle.esx_types.specs.Ranges.{IsConfig}
use Rattle.esx_events.specs.declared.event.Event.{Event}
use Rattle.esx_model.specs.declared.scene.Scene.{Scene}
use Rattle.esx_model.specs.Readings.{page_state}
use Rattle.esx_model.specs.Replay.{run}
use Rattle.esx_model.specs.Show.{shown}
use Rattle.esx_model.specs.sound.Sound.{IsSound}
use Rattle.esx_story.specs.declared.change.How.{How}
use Rattle.esx_story.specs.Hows.{IsAcceptedMoment}
use Rattle.esx_story.specs.Moments.{Moment, moments}
use Rattle.esx_story.specs.Spots.{spot_of, changed, IsChange}
use Rattle.esx_passages.specs.Passages.{Passage, passages, Passing, passings}
use Rattle.esx_passages.specs.Readings.{told_spot, epoch_of, new_epoch, epoch_after}

-- the page changed its place at that moment so, from there and to there
pub record IsPassage (x : Moment) (y : Passage) : Type 0 where
  pub how : changed x y.vm y.page ≡ Some y.how
  pub from : y.from ≡ spot_of x.before.site y.vm y.page
  pub to : y.to ≡ spot_of x.after.site y.vm y.page

-- what changed its place in an accepted event is what stands among its passages
abbrev pub AreAllPassages : Type 0
AreAllPassages = (c : Config) (x : Moment) (y : Passage) → IsAcceptedMoment c x → IsPassage x y ↔ ((k : ℕ) × (slice_get (passages x) k ≡ Some y))

-- and no page stands twice
abbrev pub IsEachOnce : Type 0
IsEachOnce = (c : Config) (x : Moment) (j k : ℕ) (y z : Passage) → IsAcceptedMoment c x → slice_get (passages x) j ≡ Some y → slice_get (passages x) k ≡ Some z → y.vm ≡ z.vm → y.page ≡ z.page → j ≡ k

-- a page passed so with the i-th event, by a list of passages
pub record IsListedSo (ps : List Passing) (i n page : ℕ) (how : How) : Type 0 where
  pub place : ℕ
  pub passing : Passing
  pub there : slice_get ps place ≡ Some passing
  pub at : passing.at ≡ i
  pub vm : passing.passage.vm ≡ n
  pub same : passing.passage.page ≡ page
  pub so : passing.passage.how ≡ how

-- none is of an earlier event than those before it
abbrev pub NeverFalls : List Passing → Type 0
NeverFalls ps = (j k : ℕ) (x y : Passing) → j < k → slice_get ps j ≡ Some x → slice_get ps k ≡ Some y → x.at ≤ y.at

-- the passages that are listed of a path are its changes of place, in order
abbrev pub AreChangesListed : Type 0
AreChangesListed = (c : Config) (es : List Event) (t : Scene) → IsConfig c → run c es ≡ Ok t →
    ((i n page : ℕ) (how : How) → IsChange (moments c es) i n page how ↔ IsListedSo (passings (moments c es)) i n page how) × NeverFalls (passings (moments c es))

-- what the tables say of a page, and the epoch of its machine, tell where it is
abbrev pub DoesPageTellSpot : Type 0
DoesPageTellSpot = (c : Config) (t : Scene) (n page : ℕ) → IsSound c t.site → spot_of t.site n page ≡ told_spot (epoch_of t.site n) (page_state (shown c t) n page)

-- epochs change as answers tell it
abbrev pub DoEpochsFollow : Type 0
DoEpochsFollow = (c : Config) (x : Moment) (n : ℕ) → IsAcceptedMoment c x → epoch_of x.after.site n ≡ epoch_after (new_epoch x.event x.answer) n (epoch_of x.before.site n)
