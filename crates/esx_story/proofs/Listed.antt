-- The list of changes of a path.
use Rattle.std.proofs.Common.{zero, suc, ◌≡◌, ℕ, ◌+◌, List, [], ◌∷◌, slice_get, refl, sym, ap, ◌∙◌, subst, arith, Option, Some, None, Ok, ◌↔◌}
use Rattle.std.specs.List.{AllByRecursion}
use Rattle.esx_types.specs.declared.config.Config.{Config}
use Rattle.esx_types.specs.Ranges.{IsConfig}
use Rattle.esx_events.specs.declared.event.Event.{Event}
use Rattle.esx_events.specs.declared.event.Answer.{Answer}
use Rattle.esx_model.specs.declared.scene.Scene.{Scene}
use Rattle.esx_model.specs.Replay.{opening, next, run_from, run}
use Rattle.esx_model.specs.sound.Sound.{IsSound}
use Rattle.esx_model.proofs.Callers.{opening_sound, every_event_sound, run_one}
use Rattle.esx_story.specs.Changes.{How, Change, change}
use Rattle.esx_story.specs.Moments.{Moment, moments_by, moments_from, moments, IsAt, Line, listed, lines_from}
use Rattle.esx_story.specs.Losses.{lost_at, Loses, IsLoss, losses}
use Rattle.esx_story.specs.Gains.{gained_at, Gains, IsGain, gains}
use Rattle.esx_story.specs.Laws.{Names, IsListedAs, IsListed, IsRising, AreLossesListed, AreGainsListed}
use Rattle.esx_story.specs.Hows.{IsAcceptedMoment}
use Rattle.esx_story.proofs.Moves.{Moves}
use Rattle.esx_story.proofs.Every.{every_event_moves}
use Rattle.esx_story.proofs.Told.{loss_of, gain_of}

some_line : (x y : Line) → Some x ≡ Some y → x ≡ y
some_line x y h = cc

-- what changed at a moment stands in the list
abbrev Stands : List Line → ℕ → Change → Type 0
Stands lines i x = (j : ℕ) × (slice_get lines j ≡ Some (record { at = i; change = x }))

later_stands : (i : ℕ) (o : Option Change) (later : List Line) (at : ℕ) (x : Change) → Stands later at x → Stands (listed i o later) at x
later_stands i None later at x s = s
later_stands i (Some y) later at x s = (suc s.0, s.1)

now_stands : (i : ℕ) (o : Option Change) (later : List Line) (x : Change) → o ≡ Some x → Stands (listed i o later) i x
now_stands i o later x h =
    let P : Option Change → Type 0 = λ y. Stands (listed i y later) i x in
    subst P (sym h) (zero, refl)

pub one_moment : (x y : Moment) → Some x ≡ Some y → x ≡ y
one_moment x y h = cc

stands : (what : Moment → Option Change) (i : ℕ) (ms : List Moment) (k : ℕ) (m : Moment) (x : Change) → slice_get ms k ≡ Some m → what m ≡ Some x → Stands (lines_from what i ms) (i + k) x
stands what i [] k m x at is = cc
stands what i (y ∷ ms) zero m x at is =
    let P : ℕ → Type 0 = λ j. Stands (lines_from what i (y ∷ ms)) j x in
    subst P (omega arith) (now_stands i (what y) (lines_from what (i + 1) ms) x (ap what (one_moment y m at) ∙ is))
stands what i (y ∷ ms) (suc k) m x at is =
    let P : ℕ → Type 0 = λ j. Stands (lines_from what i (y ∷ ms)) j x in
    subst P (omega arith) (later_stands i (what y) (lines_from what (i + 1) ms) (i + 1 + k) x (stands what (i + 1) ms k m x at is))

-- and what stands in the list changed then
record Came (what : Moment → Option Change) (i : ℕ) (ms : List Moment) (y : Line) : Type 0 where
  place : ℕ
  number : y.at ≡ i + place
  moment : Moment
  there : slice_get ms place ≡ Some moment
  is : what moment ≡ Some y.change

came_later : (what : Moment → Option Change) (i : ℕ) (m : Moment) (ms : List Moment) (y : Line) → Came what (i + 1) ms y → Came what i (m ∷ ms) y
came_later what i m ms y k = record { place = suc k.place; number = (let number = k.number in omega (arith, number)); moment = k.moment; there = k.there; is = k.is }

came_by : (what : Moment → Option Change) (i : ℕ) (m : Moment) (ms : List Moment) (o : Option Change) (y : Line) → what m ≡ o → ((j : ℕ) → slice_get (lines_from what (i + 1) ms) j ≡ Some y → Came what (i + 1) ms y)
    → (j : ℕ) → slice_get (listed i o (lines_from what (i + 1) ms)) j ≡ Some y → Came what i (m ∷ ms) y
came_by what i m ms None y is rest j h = came_later what i m ms y (rest j h)
came_by what i m ms (Some x) y is rest zero h =
    let same = some_line (record { at = i; change = x }) y h in
    let number = ap (λ (l : Line). l.at) same in
    record { place = zero; number = omega (arith, number); moment = m; there = refl; is = is ∙ ap (λ (l : Line). Some l.change) same }
came_by what i m ms (Some x) y is rest (suc j) h = came_later what i m ms y (rest j h)

came : (what : Moment → Option Change) (i : ℕ) (ms : List Moment) (j : ℕ) (y : Line) → slice_get (lines_from what i ms) j ≡ Some y → Came what i ms y
came what i [] j y h = cc
came what i (m ∷ ms) j y h = came_by what i m ms (what m) y refl (λ k e. came what (i + 1) ms k y e) j h

-- each line is of a later event
rising_by : (what : Moment → Option Change) (i : ℕ) (ms : List Moment) (o : Option Change) → IsRising (lines_from what (i + 1) ms) → IsRising (listed i o (lines_from what (i + 1) ms))
rising_by what i ms None rest j k x y less a b = rest j k x y less a b
rising_by what i ms (Some z) rest zero zero x y less a b = absurd (omega (arith, less))
rising_by what i ms (Some z) rest zero (suc k) x y less a b =
    let number = ap (λ (l : Line). l.at) (some_line (record { at = i; change = z }) x a) in
    let later = (came what (i + 1) ms k y b).number in
    omega (arith, number, later)
rising_by what i ms (Some z) rest (suc j) zero x y less a b = absurd (omega (arith, less))
rising_by what i ms (Some z) rest (suc j) (suc k) x y less a b = rest j k x y (omega (arith, less)) a b

rising : (what : Moment → Option Change) (i : ℕ) (ms : List Moment) → IsRising (lines_from what i ms)
rising what i [] j k x y less a b = cc
rising what i (m ∷ ms) j k x y less a b = rising_by what i ms (what m) (rising what (i + 1) ms) j k x y less a b

one_more : (k : ℕ) → 1 + k ≡ k + 1
one_more k = omega arith

-- it stands there exactly where the moment of that number changed so
pub listed_is : (what : Moment → Option Change) (ms : List Moment) (i n page : ℕ) (how : How) → IsListedAs (lines_from what 1 ms) i n page how ↔ ((x : Moment) × IsAt ms i x × (what x ≡ Some (change n page how)))
listed_is what ms i n page how = (
  λ line. (let k = came what 1 ms line.0 (record { at = i; change = change n page how }) line.1 in (k.moment, (k.place, k.number ∙ one_more k.place, k.there), k.is)),
  λ found. (let at = found.1 in
      let number : 1 + at.0 ≡ i = one_more at.0 ∙ sym at.1 in
      let P : ℕ → Type 0 = λ j. IsListedAs (lines_from what 1 ms) j n page how in
      subst P number (stands what 1 ms at.0 found.0 (change n page how) at.2 found.2)),
)

-- Each moment of a path is an accepted event.

pub moments_one : (c : Config) (e : Event) (es : List Event) (t : Scene) (r : Answer × Scene) → next c t e ≡ Ok r → moments_from c (e ∷ es) t ≡ record { event = e; answer = r.0; before = t; after = r.1 } ∷ moments_from c es r.1
unfolding moments_from
moments_one c e es t r h = ap (λ o. moments_by e t o (λ u. moments_from c es u)) h

accepted_from : (c : Config) (i : ℕ) (es : List Event) (t u : Scene) → IsSound c t.site → run_from c i es t ≡ Ok u → AllByRecursion (IsAcceptedMoment c) (moments_from c es t)
unfolding run_from moments_from
accepted_from c i [] t u sound h = tt
accepted_from c i (e ∷ es) t u sound h =
    let one = run_one i (next c t e) (λ x. run_from c (i + 1) es x) u h in
    let P : List Moment → Type 0 = AllByRecursion (IsAcceptedMoment c) in
    subst P (sym (moments_one c e es t one.0 one.1)) ((sound, one.1), accepted_from c (i + 1) es one.0.1 u (every_event_sound c t e one.0 sound one.1) one.2)

accepted_in : (c : Config) (ms : List Moment) (k : ℕ) (x : Moment) → AllByRecursion (IsAcceptedMoment c) ms → slice_get ms k ≡ Some x → IsAcceptedMoment c x
accepted_in c [] k x all h = cc
accepted_in c (m ∷ ms) zero x all h = subst (IsAcceptedMoment c) (one_moment m x h) all.0
accepted_in c (m ∷ ms) (suc k) x all h = accepted_in c ms k x all.1 h

pub accepted_all : (c : Config) (es : List Event) (t : Scene) → IsConfig c → run c es ≡ Ok t → AllByRecursion (IsAcceptedMoment c) (moments c es)
accepted_all c es t fine h = accepted_from c 0 es (opening c) t (opening_sound c fine) h

pub accepted_at : (c : Config) (es : List Event) (t : Scene) (i : ℕ) (x : Moment) → IsConfig c → run c es ≡ Ok t → IsAt (moments c es) i x → IsAcceptedMoment c x
accepted_at c es t i x fine h at = accepted_in c (moments c es) at.0 x (accepted_all c es t fine h) at.2

-- The laws of a path.

moves_at : (c : Config) (x : Moment) → IsAcceptedMoment c x → Moves x.before.site x.after.site (lost_at x) (gained_at x)
moves_at c x ok = every_event_moves c x.before x.event (x.answer, x.after) ok.0 ok.1

pub losses_listed : AreLossesListed
losses_listed c es t fine h = (λ i n page. both i n page, rising lost_at 1 (moments c es))
  where
    of : (n page : ℕ) (i : ℕ) (x : Moment) → IsAt (moments c es) i x → Loses x.before.site x.after.site n page ↔ Names (lost_at x) n page
    of n page i x at = loss_of x.before.site x.after.site (lost_at x) (gained_at x) n page (moves_at c x (accepted_at c es t i x fine h at))

    both : (i n page : ℕ) → IsLoss (moments c es) i n page ↔ IsListed (losses (moments c es)) i n page
    both i n page = (
      λ loss. (let names = (of n page i loss.0 loss.1).0 loss.2 in (names.0, (listed_is lost_at (moments c es) i n page names.0).1 (loss.0, loss.1, names.1))),
      λ line. (let found = (listed_is lost_at (moments c es) i n page line.0).0 line.1 in (found.0, found.1, (of n page i found.0 found.1).1 (line.0, found.2))),
    )

pub gains_listed : AreGainsListed
gains_listed c es t fine h = (λ i n page. both i n page, rising gained_at 1 (moments c es))
  where
    of : (n page : ℕ) (i : ℕ) (x : Moment) → IsAt (moments c es) i x → Gains x.before.site x.after.site n page ↔ Names (gained_at x) n page
    of n page i x at = gain_of x.before.site x.after.site (lost_at x) (gained_at x) n page (moves_at c x (accepted_at c es t i x fine h at))

    both : (i n page : ℕ) → IsGain (moments c es) i n page ↔ IsListed (gains (moments c es)) i n page
    both i n page = (
      λ gain. (let names = (of n page i gain.0 gain.1).0 gain.2 in (names.0, (listed_is gained_at (moments c es) i n page names.0).1 (gain.0, gain.1, names.1))),
      λ line. (let found = (listed_is gained_at (moments c es) i n page line.0).0 line.1 in (found.0, found.1, (of n page i found.0 found.1).1 (line.0, found.2))),
    )
