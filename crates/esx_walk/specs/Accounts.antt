-- What an account says of a path.
use Rattle.std.specs.Prelude.{◌≡◌, ℕ, suc, ◌<◌, ◌≤◌, true, false, List, [], length, slice_get, slice_index_or, Option, Some, None, Ok}
use Rattle.std.specs.List.{AllByRecursion}
use Rattle.esx_types.specs.declared.config.TheConstants.{VM_NUMBERS}
use Rattle.esx_types.specs.declared.config.Config.{Config}
use Rattle.esx_model.specs.declared.scene.Site.{Site}
use Rattle.esx_events.specs.declared.event.Event.{Event}
use Rattle.esx_events.specs.declared.event.Answer.{Answer}
use Rattle.esx_model.specs.Replay.{next}
use Rattle.esx_model.specs.sound.Sound.{IsSound}
use Rattle.esx_story.specs.declared.change.Change.{Change}
use Rattle.esx_story.specs.declared.story.Seen.{Seen}
use Rattle.esx_story.specs.declared.story.Loss.{Loss}
use Rattle.esx_story.specs.Losses.{lost_at}
use Rattle.esx_story.specs.Gains.{gained_at}
use Rattle.esx_story.specs.Changes.{has_here}
use Rattle.esx_story.specs.Moments.{Moment}
use Rattle.esx_story.specs.Counts.{counts, life_from}
use Rattle.esx_story.specs.Spans.{back, over, is_rebalance, set_from}
use Rattle.esx_story.specs.Waits.{Met, asked_by, asked_since}
use Rattle.esx_story.specs.Story.{seen, told}
use Rattle.esx_walk.specs.declared.lives.Life.{Life}
use Rattle.esx_walk.specs.Account.{Account, life_in, asked_for, open_in}

-- the page of a loss is away, and its machine stands
pub record IsOpen (ms : List Moment) (l : Loss) : Type 0 where
  pub back : back ms l.at l.change.vm l.change.page ≡ None
  pub over : over ms l.at l.change.vm l.change.page ≡ None

-- such a loss is found by its page, which is away indeed
pub record IsFound (s : Site) (rows : List (List ℕ)) (j : ℕ) (l : Loss) : Type 0 where
  pub place : open_in rows l.change.vm l.change.page ≡ suc j
  pub away : has_here s l.change.vm l.change.page ≡ false

-- and what is found by a page is such a loss of it
pub record Holds (ms : List Moment) (losses : List Loss) (n page j : ℕ) : Type 0 where
  pub loss : Loss
  pub there : slice_get losses j ≡ Some loss
  pub stands : IsOpen ms loss
  pub number : loss.change.vm ≡ n
  pub same : loss.change.page ≡ page

pub record IsLife (ms : List Moment) (n : ℕ) (l : Life) : Type 0 where
  pub lives : l.lives ≡ life_from n ms 0
  pub set : l.set ≡ set_from n 1 None ms
  pub asked : l.asked ≡ asked_since ms n (set_from n 1 None ms)
  pub counts : l.counts ≡ counts n ms

-- The account is of a path on which these calls were refused, and which led to a site.
pub record IsAccount (c : Config) (ms : List Moment) (mets : List Met) (s : Site) (a : Account) : Type 0 where
  pub events : a.events ≡ length ms
  pub losses : a.losses ≡ told c ms mets
  pub lives : (n : ℕ) → n < VM_NUMBERS → IsLife ms n (life_in a.lives n)
  pub numbers : length a.lives ≡ VM_NUMBERS
  pub rows : length a.places ≡ VM_NUMBERS
  pub found : (j : ℕ) (l : Loss) → slice_get a.losses j ≡ Some l → IsOpen ms l → IsFound s a.places j l
  pub holds : (n page j : ℕ) → open_in a.places n page ≡ suc j → Holds ms a.losses n page j
  pub early : AllByRecursion (λ (m : Met). m.at ≤ length ms) mets

-- A moment that comes: its event is accepted in a sound site, and this is its answer, what it lost and gained, what was seen of its machine before it, and what each machine gave if it is a rebalance; and there is a place for its page.
pub record IsNext (c : Config) (x : Moment) (places : List (List ℕ)) (event : Event) (answer : Answer) (s : Option Seen) (given : Option (List ℕ)) (lost gained : Option Change) : Type 0 where
  pub sound : IsSound c x.before.site
  pub goes : next c x.before x.event ≡ Ok (x.answer, x.after)
  pub made : x.event ≡ event
  pub told : x.answer ≡ answer
  pub loses : lost_at x ≡ lost
  pub gains : gained_at x ≡ gained
  pub asks : (n : ℕ) → n < VM_NUMBERS → is_rebalance event ≡ true → asked_for answer given n ≡ asked_by n (Some x)
  pub about : (y : Change) → lost ≡ Some y → (s ≡ Some (seen c x.before y.vm)) × (y.vm < VM_NUMBERS) × (y.page < length (slice_index_or places y.vm []))
