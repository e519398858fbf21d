-- When a page is back, or its machine goes.
use Rattle.std.proofs.Common.{zero, suc, ◌≡◌, ℕ, ◌+◌, ◌-◌, ◌<◌, Bool, true, false, List, [], ◌∷◌, take, drop, slice_get, option_map, refl, sym, ap, ◌∙◌, subst, arith, cond, Option, Some, None, Result, Ok, inl, inr}
use Rattle.std.proofs.lemmas.Bool.{cases_eq}
use Rattle.std.proofs.lemmas.Option.{none-some}
use Rattle.esx_events.specs.declared.event.Refusal.{Refusal}
use Rattle.esx_model.specs.declared.scene.Scene.{Scene}
use Rattle.esx_model.specs.Replay.{run}
use Rattle.esx_model.proofs.Callers.{some_same}
use Rattle.esx_story.specs.Changes.{How, Change, change, has_here}
use Rattle.esx_story.specs.Moments.{Moment, moments, IsAt}
use Rattle.esx_story.specs.Losses.{IsLoss}
use Rattle.esx_story.specs.Gains.{gained_at}
use Rattle.esx_story.specs.Spans.{is_last, back_from, back, over_from, gained_how, came_by, came_as}
use Rattle.esx_story.specs.Laws.{Names}
use Rattle.esx_story.specs.Paths.{IsFirstBack, IsBackFirst, IsOverFirst, IsBackGained, IsComeGained}
use Rattle.esx_story.proofs.Told.{gain_told}
use Rattle.esx_story.proofs.Listed.{one_moment, listed_is, accepted_at}
use Rattle.esx_story.proofs.Walked.{path_told}

-- the page is away after the moment, and its machine stands
abbrev IsAway : ℕ → ℕ → Moment → Type 0
IsAway n page y = (has_here y.after.site n page ≡ false) × (is_last n y.event y.answer ≡ false)

-- the page is here after the d-th of these, counted from 0, and away after those before
record Comes (n page : ℕ) (ms : List Moment) (d : ℕ) : Type 0 where
  moment : Moment
  at : slice_get ms d ≡ Some moment
  here : has_here moment.after.site n page ≡ true
  never : (k : ℕ) (y : Moment) → k < d → slice_get ms k ≡ Some y → IsAway n page y

abbrev Found : ℕ → ℕ → List Moment → ℕ → ℕ → Type 0
Found n page ms i j = (d : ℕ) × (j ≡ i + d) × Comes n page ms d

comes_later : (n page : ℕ) (x : Moment) (ms : List Moment) (i j : ℕ) → IsAway n page x → Found n page ms (i + 1) j → Found n page (x ∷ ms) i j
comes_later n page x ms i j away f =
    let d = f.0 in
    let number = f.1 in
    let come = f.2 in
    (suc d, omega (arith, number), record { moment = come.moment; at = come.at; here = come.here; never = λ k y less at. never k y less at })
  where
    never : (k : ℕ) (y : Moment) → k < suc f.0 → slice_get (x ∷ ms) k ≡ Some y → IsAway n page y
    never zero y less at = subst (IsAway n page) (one_moment x y at) away
    never (suc k) y less at = f.2.never k y (omega (arith, less)) at

found_by : (n page : ℕ) (x : Moment) (ms : List Moment) (i j : ℕ) (a b : Bool) → has_here x.after.site n page ≡ a → is_last n x.event x.answer ≡ b → (back_from n page (i + 1) ms ≡ Some j → Found n page ms (i + 1) j)
    → cond a (Some i) (cond b None (back_from n page (i + 1) ms)) ≡ Some j → Found n page (x ∷ ms) i j
found_by n page x ms i j true b here last rest h =
    let same = some_same i j h in
    (0, omega (arith, same), record { moment = x; at = refl; here = here; never = λ k y less at. absurd (omega (arith, less)) })
found_by n page x ms i j false true here last rest h = absurd (none-some j h)
found_by n page x ms i j false false here last rest h = comes_later n page x ms i j (here, last) (rest h)

found : (n page : ℕ) (ms : List Moment) (i j : ℕ) → back_from n page i ms ≡ Some j → Found n page ms i j
found n page [] i j h = absurd (none-some j h)
found n page (x ∷ ms) i j h = found_by n page x ms i j (has_here x.after.site n page) (is_last n x.event x.answer) refl refl (λ k. found n page ms (i + 1) j k) h

-- and the other way
back_at : (n page : ℕ) (ms : List Moment) (i d : ℕ) → Comes n page ms d → back_from n page i ms ≡ Some (i + d)
back_at n page [] i d come = absurd (none-some come.moment come.at)
back_at n page (x ∷ ms) i zero come =
    let same = one_moment x come.moment come.at in
    let here : has_here x.after.site n page ≡ true = ap (λ (y : Moment). has_here y.after.site n page) same ∙ come.here in
    ap (λ b. cond b (Some i) (cond (is_last n x.event x.answer) None (back_from n page (i + 1) ms))) here ∙ ap (λ k. Some k) (let e : i ≡ i + 0 = omega arith in e)
back_at n page (x ∷ ms) i (suc d) come =
    let away = come.never 0 x (omega arith) refl in
    let rest = back_at n page ms (i + 1) d (record { moment = come.moment; at = come.at; here = come.here; never = λ k y less at. come.never (suc k) y (omega (arith, less)) at }) in
    ap (λ b. cond b (Some i) (cond (is_last n x.event x.answer) None (back_from n page (i + 1) ms))) away.0
    ∙ ap (λ b. cond b None (back_from n page (i + 1) ms)) away.1
    ∙ rest ∙ ap (λ k. Some k) (let e : i + 1 + d ≡ i + suc d = omega arith in e)

-- Places in what is left of a list.
get_drop : (ms : List Moment) (i d : ℕ) → slice_get (drop i ms) d ≡ slice_get ms (i + d)
get_drop ms zero d = ap (slice_get ms) (let e : d ≡ 0 + d = omega arith in e)
get_drop [] (suc i) d = refl
get_drop (m ∷ ms) (suc i) d = get_drop ms i d ∙ ap (slice_get (m ∷ ms)) (let e : suc (i + d) ≡ suc i + d = omega arith in e)

pub back_first : IsBackFirst
back_first ms i n page j = (
  λ h. (let f = found n page (drop i ms) (i + 1) j h in
      let d = f.0 in
      let number = f.1 in
      let come = f.2 in
      record {
        later = omega (arith, number);
        moment = come.moment;
        at = (i + d, omega (arith, number), sym (get_drop ms i d) ∙ come.at);
        here = come.here;
        never = λ k y low high at. (let place = at.0 in let is = at.1 in let there = at.2 in
            let e : i + (place - i) ≡ place = omega (arith, is, low) in
            come.never (place - i) y (omega (arith, is, low, high, number)) (get_drop ms i (place - i) ∙ ap (slice_get ms) e ∙ there));
      }),
  λ b. (let place = b.at.0 in let is = b.at.1 in let there = b.at.2 in let later = b.later in
      let e : i + (place - i) ≡ place = omega (arith, is, later) in
      let come : Comes n page (drop i ms) (place - i) = record {
        moment = b.moment;
        at = get_drop ms i (place - i) ∙ ap (slice_get ms) e ∙ there;
        here = b.here;
        never = λ k y less at. b.never (i + k + 1) y (omega arith) (omega (arith, less, is, later)) (i + k, refl, sym (get_drop ms i k) ∙ at);
      } in
      back_at n page (drop i ms) (i + 1) (place - i) come ∙ ap (λ k. Some k) (let d : i + 1 + (place - i) ≡ j = omega (arith, is, later) in d)),
)

-- The machine goes.

record Goes (n page : ℕ) (ms : List Moment) (d : ℕ) : Type 0 where
  moment : Moment
  at : slice_get ms d ≡ Some moment
  away : has_here moment.after.site n page ≡ false
  last : is_last n moment.event moment.answer ≡ true
  never : (k : ℕ) (y : Moment) → k < d → slice_get ms k ≡ Some y → IsAway n page y

abbrev Ended : ℕ → ℕ → List Moment → ℕ → ℕ → Type 0
Ended n page ms i j = (d : ℕ) × (j ≡ i + d) × Goes n page ms d

goes_later : (n page : ℕ) (x : Moment) (ms : List Moment) (i j : ℕ) → IsAway n page x → Ended n page ms (i + 1) j → Ended n page (x ∷ ms) i j
goes_later n page x ms i j away f =
    let d = f.0 in
    let number = f.1 in
    let go = f.2 in
    (suc d, omega (arith, number), record { moment = go.moment; at = go.at; away = go.away; last = go.last; never = λ k y less at. never k y less at })
  where
    never : (k : ℕ) (y : Moment) → k < suc f.0 → slice_get (x ∷ ms) k ≡ Some y → IsAway n page y
    never zero y less at = subst (IsAway n page) (one_moment x y at) away
    never (suc k) y less at = f.2.never k y (omega (arith, less)) at

ended_by : (n page : ℕ) (x : Moment) (ms : List Moment) (i j : ℕ) (a b : Bool) → has_here x.after.site n page ≡ a → is_last n x.event x.answer ≡ b → (over_from n page (i + 1) ms ≡ Some j → Ended n page ms (i + 1) j)
    → cond a None (cond b (Some i) (over_from n page (i + 1) ms)) ≡ Some j → Ended n page (x ∷ ms) i j
ended_by n page x ms i j true b here last rest h = absurd (none-some j h)
ended_by n page x ms i j false true here last rest h =
    let same = some_same i j h in
    (0, omega (arith, same), record { moment = x; at = refl; away = here; last = last; never = λ k y less at. absurd (omega (arith, less)) })
ended_by n page x ms i j false false here last rest h = goes_later n page x ms i j (here, last) (rest h)

ended : (n page : ℕ) (ms : List Moment) (i j : ℕ) → over_from n page i ms ≡ Some j → Ended n page ms i j
ended n page [] i j h = absurd (none-some j h)
ended n page (x ∷ ms) i j h = ended_by n page x ms i j (has_here x.after.site n page) (is_last n x.event x.answer) refl refl (λ k. ended n page ms (i + 1) j k) h

over_at : (n page : ℕ) (ms : List Moment) (i d : ℕ) → Goes n page ms d → over_from n page i ms ≡ Some (i + d)
over_at n page [] i d go = absurd (none-some go.moment go.at)
over_at n page (x ∷ ms) i zero go =
    let same = one_moment x go.moment go.at in
    let away : has_here x.after.site n page ≡ false = ap (λ (y : Moment). has_here y.after.site n page) same ∙ go.away in
    let last : is_last n x.event x.answer ≡ true = ap (λ (y : Moment). is_last n y.event y.answer) same ∙ go.last in
    ap (λ b. cond b None (cond (is_last n x.event x.answer) (Some i) (over_from n page (i + 1) ms))) away
    ∙ ap (λ b. cond b (Some i) (over_from n page (i + 1) ms)) last ∙ ap (λ k. Some k) (let e : i ≡ i + 0 = omega arith in e)
over_at n page (x ∷ ms) i (suc d) go =
    let away = go.never 0 x (omega arith) refl in
    let rest = over_at n page ms (i + 1) d (record { moment = go.moment; at = go.at; away = go.away; last = go.last; never = λ k y less at. go.never (suc k) y (omega (arith, less)) at }) in
    ap (λ b. cond b None (cond (is_last n x.event x.answer) (Some i) (over_from n page (i + 1) ms))) away.0
    ∙ ap (λ b. cond b (Some i) (over_from n page (i + 1) ms)) away.1
    ∙ rest ∙ ap (λ k. Some k) (let e : i + 1 + d ≡ i + suc d = omega arith in e)

pub over_first : IsOverFirst
over_first ms i n page j = (
  λ h. (let f = ended n page (drop i ms) (i + 1) j h in
      let d = f.0 in
      let number = f.1 in
      let go = f.2 in
      record {
        later = omega (arith, number);
        moment = go.moment;
        at = (i + d, omega (arith, number), sym (get_drop ms i d) ∙ go.at);
        away = go.away;
        last = go.last;
        never = λ k y low high at. (let place = at.0 in let is = at.1 in let there = at.2 in
            let e : i + (place - i) ≡ place = omega (arith, is, low) in
            go.never (place - i) y (omega (arith, is, low, high, number)) (get_drop ms i (place - i) ∙ ap (slice_get ms) e ∙ there));
      }),
  λ b. (let place = b.at.0 in let is = b.at.1 in let there = b.at.2 in let later = b.later in
      let e : i + (place - i) ≡ place = omega (arith, is, later) in
      let go : Goes n page (drop i ms) (place - i) = record {
        moment = b.moment;
        at = get_drop ms i (place - i) ∙ ap (slice_get ms) e ∙ there;
        away = b.away;
        last = b.last;
        never = λ k y less at. b.never (i + k + 1) y (omega arith) (omega (arith, less, is, later)) (i + k, refl, sym (get_drop ms i k) ∙ at);
      } in
      over_at n page (drop i ms) (i + 1) (place - i) go ∙ ap (λ k. Some k) (let d : i + 1 + (place - i) ≡ j = omega (arith, is, later) in d)),
)

-- What was lost and is back is gained.

abbrev the_scene : Scene → Result Scene (ℕ × Refusal)
the_scene x = Ok x

one_scene : (t u : Scene) → the_scene t ≡ the_scene u → t ≡ u
one_scene t u h = cc

same_scene : (o : Result Scene (ℕ × Refusal)) (t u : Scene) → o ≡ Ok t → o ≡ Ok u → t ≡ u
same_scene o t u a b = one_scene t u (sym a ∙ b)

-- there is a moment below
moment_below : (ms : List Moment) (k : ℕ) (x : Moment) (j : ℕ) → slice_get ms k ≡ Some x → j < k → (y : Moment) × (slice_get ms j ≡ Some y)
moment_below [] k x j h less = absurd (none-some x h)
moment_below (m ∷ ms) zero x j h less = absurd (omega (arith, less))
moment_below (m ∷ ms) (suc k) x zero h less = (m, refl)
moment_below (m ∷ ms) (suc k) x (suc j) h less = moment_below ms k x j h (omega (arith, less))

-- the page was away after the moment before
away_before : (ms : List Moment) (i n page j : ℕ) (b : IsFirstBack ms i n page j) (k : ℕ) (y : Moment) → IsLoss ms i n page → j ≡ suc k + 1 → slice_get ms k ≡ Some y → has_here y.after.site n page ≡ false
away_before ms i n page j b k y loss number at = elim (cases_eq i (k + 1)) [
  | inl e ↦ (let place = loss.1.0 in let is = loss.1.1 in let there = loss.1.2 in
      let same_place : place ≡ k = omega (arith, e, is) in
      let same = one_moment loss.0 y (sym there ∙ ap (slice_get ms) same_place ∙ at) in
      ap (λ (z : Moment). has_here z.after.site n page) (sym same) ∙ loss.2.1)
  | inr other ↦ (let later = b.later in (b.never (k + 1) y (omega (arith, other, later, number)) (omega (arith, number)) (k, refl, at)).0)
]

pub back_gained : IsBackGained
back_gained c es t i n page j h loss is =
    let ms = moments c es in
    let b = (back_first ms i n page j).0 is in
    let told = path_told c es t h in
    let later = b.later in
    let place = b.at.0 in
    let number = b.at.1 in
    let first = loss.1.1 in
    let less : place - 1 < place = omega (arith, number, later, first) in
    let y = moment_below ms place b.moment (place - 1) b.at.2 less in
    let one = told.1 (place - 1) y.0 y.1 in
    let two = told.1 place b.moment b.at.2 in
    let next_place : suc (place - 1) ≡ place = omega (arith, less) in
    let same = same_scene (run c (take place es)) y.0.after b.moment.before (ap (λ k. run c (take k es)) (sym next_place) ∙ one.after) two.before in
    let away = away_before ms i n page j b (place - 1) y.0 loss (omega (arith, number, next_place)) y.1 in
    (b.moment, b.at, (ap (λ (x : Scene). has_here x.site n page) (sym same) ∙ away, b.here))

-- And it came as that gain says.

come_as : (ms : List Moment) (i n page j : ℕ) (x : Moment) → back ms i n page ≡ Some j → IsAt ms j x → came_as ms i n page ≡ gained_how (Some x)
come_as ms i n page j x is at =
    let number = at.1 in
    let place : j - 1 ≡ at.0 = omega (arith, number) in
    ap (came_by ms) is ∙ ap (λ k. gained_how (slice_get ms k)) place ∙ ap gained_how at.2

abbrev how_in : Option Change → Option How
how_in o = option_map (λ (y : Change). y.how) o

names_so : (o : Option Change) (n page : ℕ) (how : How) → Names o n page → how_in o ≡ Some how → o ≡ Some (change n page how)
names_so o n page how names h =
    let same = some_same names.0 how (ap how_in (sym names.1) ∙ h) in
    names.1 ∙ ap (λ k. Some (change n page k)) same

pub come_gained : IsComeGained
come_gained c es t i n page j how fine h loss is = (
  λ came. (let gain = back_gained c es t i n page j h loss is in
      let x = gain.0 in
      let ok = accepted_at c es t j x fine h gain.1 in
      let names = (gain_told c x.before x.event (x.answer, x.after) n page ok.0 ok.1).0 gain.2 in
      (listed_is gained_at (moments c es) j n page how).1 (x, gain.1, names_so (gained_at x) n page how names (sym (come_as (moments c es) i n page j x is gain.1) ∙ came))),
  λ line. (let found = (listed_is gained_at (moments c es) j n page how).0 line in come_as (moments c es) i n page j found.0 is found.1 ∙ ap how_in found.2),
)
