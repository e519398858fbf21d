-- Laws that tie the moments of a path, and what is counted along them, to the path.
use Rattle.std.specs.Prelude.{◌≡◌, ◌↔◌, ℕ, suc, ◌<◌, true, false, List, [], ◌∷◌, ◌++◌, length, map, take, slice_get, Some, Ok}
use Rattle.esx_types.specs.declared.config.Config.{Config}
use Rattle.esx_types.specs.Ranges.{IsConfig}
use Rattle.esx_events.specs.declared.event.Event.{Event}
use Rattle.esx_model.specs.declared.scene.Scene.{Scene}
use Rattle.esx_model.specs.Replay.{next, run}
use Rattle.esx_story.specs.Changes.{How, has_here}
use Rattle.esx_story.specs.Moments.{Moment, moments, IsAt}
use Rattle.esx_story.specs.declared.story.Loss.{Loss}
use Rattle.esx_story.specs.Losses.{IsLoss, losses}
use Rattle.esx_story.specs.Gains.{IsGain, gains}
use Rattle.esx_story.specs.Counts.{no_counts, admits, counts}
use Rattle.esx_story.specs.Laws.{IsListedAs}
use Rattle.esx_story.specs.Waits.{Met}
use Rattle.esx_story.specs.Story.{told}
use Rattle.esx_story.specs.Spans.{is_last, back, over, came_as, is_rebalance, set_at}

-- Moment k of a path that is accepted: its event came when the events before it had led there, and they and it lead on.
pub record IsMoment (c : Config) (es : List Event) (k : ℕ) (x : Moment) : Type 0 where
  pub event : slice_get es k ≡ Some x.event
  pub before : run c (take k es) ≡ Ok x.before
  pub goes : next c x.before x.event ≡ Ok (x.answer, x.after)
  pub after : run c (take (suc k) es) ≡ Ok x.after

-- there is one for each event
abbrev pub AreMoments : Type 0
AreMoments = (c : Config) (es : List Event) (t : Scene) → run c es ≡ Ok t →
    (length (moments c es) ≡ length es) × ((k : ℕ) (x : Moment) → slice_get (moments c es) k ≡ Some x → IsMoment c es k x)

-- counts start anew with an admission
abbrev pub DoCountsStartAnew : Type 0
DoCountsStartAnew = (n : ℕ) (ms : List Moment) (x : Moment) → admits n x.event ≡ true → counts n (ms ++ x ∷ []) ≡ no_counts

-- The page is here after the j-th event, after none from the i-th on before it, and its machine stood all the while.
pub record IsFirstBack (ms : List Moment) (i n page j : ℕ) : Type 0 where
  pub later : i < j
  pub moment : Moment
  pub at : IsAt ms j moment
  pub here : has_here moment.after.site n page ≡ true
  pub never : (k : ℕ) (y : Moment) → i < k → k < j → IsAt ms k y → (has_here y.after.site n page ≡ false) × (is_last n y.event y.answer ≡ false)

abbrev pub IsBackFirst : Type 0
IsBackFirst = (ms : List Moment) (i n page j : ℕ) → (back ms i n page ≡ Some j) ↔ IsFirstBack ms i n page j

-- The machine goes with the j-th event, and the page is away after it and all from the i-th on before it.
pub record IsFirstOver (ms : List Moment) (i n page j : ℕ) : Type 0 where
  pub later : i < j
  pub moment : Moment
  pub at : IsAt ms j moment
  pub away : has_here moment.after.site n page ≡ false
  pub last : is_last n moment.event moment.answer ≡ true
  pub never : (k : ℕ) (y : Moment) → i < k → k < j → IsAt ms k y → (has_here y.after.site n page ≡ false) × (is_last n y.event y.answer ≡ false)

abbrev pub IsOverFirst : Type 0
IsOverFirst = (ms : List Moment) (i n page j : ℕ) → (over ms i n page ≡ Some j) ↔ IsFirstOver ms i n page j

-- what was lost and is back is gained
abbrev pub IsBackGained : Type 0
IsBackGained = (c : Config) (es : List Event) (t : Scene) (i n page j : ℕ) → run c es ≡ Ok t → IsLoss (moments c es) i n page → back (moments c es) i n page ≡ Some j → IsGain (moments c es) j n page

-- and it came as that gain says
abbrev pub IsComeGained : Type 0
IsComeGained = (c : Config) (es : List Event) (t : Scene) (i n page j : ℕ) (how : How) → IsConfig c → run c es ≡ Ok t → IsLoss (moments c es) i n page → back (moments c es) i n page ≡ Some j →
    (came_as (moments c es) i n page ≡ Some how) ↔ IsListedAs (gains (moments c es)) j n page how

-- The last Rebalance before the i-th event, with no admission of machine n since.
pub record IsLastSet (ms : List Moment) (i n k : ℕ) : Type 0 where
  pub before : k < i
  pub moment : Moment
  pub at : IsAt ms k moment
  pub is : is_rebalance moment.event ≡ true
  pub never : (j : ℕ) (y : Moment) → k < j → j < i → IsAt ms j y → (admits n y.event ≡ false) × (is_rebalance y.event ≡ false)

abbrev pub IsSetLast : Type 0
IsSetLast = (ms : List Moment) (i n k : ℕ) → (set_at ms i n ≡ Some k) ↔ IsLastSet ms i n k

-- the losses that are told of a path, without what is told of them, are its losses
abbrev pub AreLossesTold : Type 0
AreLossesTold = (c : Config) (ms : List Moment) (mets : List Met) → map (λ (l : Loss). record { at = l.at; change = l.change }) (told c ms mets) ≡ losses ms
