-- The list of passages of a path.
use Rattle.std.proofs.Common.{zero, suc, ◌≡◌, ◌↔◌, ℕ, ◌+◌, ◌<◌, ◌≤◌, List, [], ◌∷◌, ◌++◌, length, slice_get, refl, sym, ap, ◌∙◌, subst, arith, Some, None, Ok, inl, inr, ◌⊎◌}
use Rattle.esx_types.specs.declared.config.Config.{Config}
use Rattle.esx_types.specs.Ranges.{IsConfig}
use Rattle.esx_events.specs.declared.event.Event.{Event}
use Rattle.esx_model.specs.declared.scene.Scene.{Scene}
use Rattle.esx_model.specs.Replay.{run}
use Rattle.esx_model.proofs.Callers.{some_same}
use Rattle.esx_story.specs.declared.change.How.{How}
use Rattle.esx_story.specs.Moments.{Moment, moments, IsAt}
use Rattle.esx_story.specs.Spots.{spot_of, changed, IsChange}
use Rattle.esx_story.proofs.Listed.{accepted_at}
use Rattle.esx_passages.specs.Passages.{Passage, passages, Passing, passing, passings_of, passings_from, passings}
use Rattle.esx_passages.specs.Laws.{IsPassage, IsListedSo, NeverFalls, AreChangesListed}
use Rattle.esx_passages.proofs.Complete.{all_passages}

-- Places in two lists, one behind the other.

in_front : {X : Type 0} (xs ys : List X) (j : ℕ) (y : X) → slice_get xs j ≡ Some y → slice_get (xs ++ ys) j ≡ Some y
in_front [] ys j y h = cc
in_front (x ∷ xs) ys zero y h = h
in_front (x ∷ xs) ys (suc j) y h = in_front xs ys j y h

behind : {X : Type 0} (xs ys : List X) (j : ℕ) (y : X) → slice_get ys j ≡ Some y → (k : ℕ) × (slice_get (xs ++ ys) k ≡ Some y)
behind [] ys j y h = (j, h)
behind (x ∷ xs) ys j y h = (let rest = behind xs ys j y h in (suc rest.0, rest.1))

somewhere : {X : Type 0} (xs ys : List X) (j : ℕ) (y : X) → slice_get (xs ++ ys) j ≡ Some y → (slice_get xs j ≡ Some y) ⊎ ((k : ℕ) × (slice_get ys k ≡ Some y))
somewhere [] ys j y h = inr (j, h)
somewhere (x ∷ xs) ys zero y h = inl h
somewhere (x ∷ xs) ys (suc j) y h = somewhere xs ys j y h

-- Passages of one event.

told_here : (i : ℕ) (ys : List Passage) (j : ℕ) (y : Passage) → slice_get ys j ≡ Some y → slice_get (passings_of i ys) j ≡ Some (passing i y)
told_here i [] j y h = cc
told_here i (x ∷ ys) zero y h = ap (λ (z : Passage). Some (passing i z)) (some_same x y h)
told_here i (x ∷ ys) (suc j) y h = told_here i ys j y h

is_told : (i : ℕ) (ys : List Passage) (j : ℕ) (z : Passing) → slice_get (passings_of i ys) j ≡ Some z → (z.at ≡ i) × (slice_get ys j ≡ Some z.passage)
is_told i [] j z h = cc
is_told i (x ∷ ys) zero z h =
    let same = some_same (passing i x) z h in
    (sym (ap (λ (q : Passing). q.at) same), ap (λ (q : Passing). Some q.passage) same)
is_told i (x ∷ ys) (suc j) z h = is_told i ys j z h

-- Passages of a path.

listed : (i : ℕ) (ms : List Moment) (k : ℕ) (x : Moment) (j : ℕ) (y : Passage) → slice_get ms k ≡ Some x → slice_get (passages x) j ≡ Some y → (place : ℕ) × (slice_get (passings_from i ms) place ≡ Some (passing (i + k) y))
listed i [] k x j y at h = cc
listed i (m ∷ ms) zero x j y at h =
    let P : Moment → Type 0 = λ z. slice_get (passages z) j ≡ Some y in
    let Q : ℕ → Type 0 = λ l. (place : ℕ) × (slice_get (passings_from i (m ∷ ms)) place ≡ Some (passing l y)) in
    let here = subst P (sym (some_same m x at)) h in
    subst Q (omega arith) (j, in_front (passings_of i (passages m)) (passings_from (i + 1) ms) j (passing i y) (told_here i (passages m) j y here))
listed i (m ∷ ms) (suc k) x j y at h =
    let rest = listed (i + 1) ms k x j y at h in
    let Q : ℕ → Type 0 = λ l. (place : ℕ) × (slice_get (passings_from i (m ∷ ms)) place ≡ Some (passing l y)) in
    subst Q (omega arith) (behind (passings_of i (passages m)) (passings_from (i + 1) ms) rest.0 (passing (i + 1 + k) y) rest.1)

-- what stands in the list passed then
record Passed (i : ℕ) (ms : List Moment) (z : Passing) : Type 0 where
  place : ℕ
  number : z.at ≡ i + place
  moment : Moment
  there : slice_get ms place ≡ Some moment
  among : ℕ
  is : slice_get (passages moment) among ≡ Some z.passage

passed : (i : ℕ) (ms : List Moment) (j : ℕ) (z : Passing) → slice_get (passings_from i ms) j ≡ Some z → Passed i ms z
passed i [] j z h = cc
passed i (m ∷ ms) j z h = elim (somewhere (passings_of i (passages m)) (passings_from (i + 1) ms) j z h) [
  | inl k ↦ (let told = is_told i (passages m) j z k in
      let number = told.0 in
      record { place = zero; number = omega (arith, number); moment = m; there = refl; among = j; is = told.1 })
  | inr k ↦ (let rest = passed (i + 1) ms k.0 z k.1 in
      let number = rest.number in
      record { place = suc rest.place; number = omega (arith, number); moment = rest.moment; there = rest.there; among = rest.among; is = rest.is })
]

-- In order of event.

falls_more : (x : Passing) (xs : List Passing) → NeverFalls xs → ((k : ℕ) (y : Passing) → slice_get xs k ≡ Some y → x.at ≤ y.at) → NeverFalls (x ∷ xs)
falls_more x xs rest least zero zero a b less h e = absurd (omega (arith, less))
falls_more x xs rest least (suc j) zero a b less h e = absurd (omega (arith, less))
falls_more x xs rest least zero (suc k) a b less h e =
    let first = ap (λ (q : Passing). q.at) (some_same x a h) in
    let more = least k b e in
    omega (arith, first, more)
falls_more x xs rest least (suc j) (suc k) a b less h e = rest j k a b (omega (arith, less)) h e

at_least : (i : ℕ) (ys : List Passage) (later : List Passing) → ((k : ℕ) (z : Passing) → slice_get later k ≡ Some z → i ≤ z.at) → (k : ℕ) (z : Passing) → slice_get (passings_of i ys ++ later) k ≡ Some z → i ≤ z.at
at_least i ys later least k z h = elim (somewhere (passings_of i ys) later k z h) [
  | inl e ↦ (let told = (is_told i ys k z e).0 in omega (arith, told))
  | inr e ↦ least e.0 z e.1
]

falls_of : (i : ℕ) (ys : List Passage) (later : List Passing) → NeverFalls later → ((k : ℕ) (z : Passing) → slice_get later k ≡ Some z → i ≤ z.at) → NeverFalls (passings_of i ys ++ later)
falls_of i [] later rest least = rest
falls_of i (y ∷ ys) later rest least = falls_more (passing i y) (passings_of i ys ++ later) (falls_of i ys later rest least) (at_least i ys later least)

falls : (i : ℕ) (ms : List Moment) → NeverFalls (passings_from i ms)
falls i [] = λ j k x y less h e. cc
falls i (m ∷ ms) = falls_of i (passages m) (passings_from (i + 1) ms) (falls (i + 1) ms) (λ k z h. (let number = (passed (i + 1) ms k z h).number in omega (arith, number)))

pub changes_listed : AreChangesListed
changes_listed c es t fine h = (λ i n page how. both i n page how, falls 1 (moments c es))
  where
    both : (i n page : ℕ) (how : How) → IsChange (moments c es) i n page how ↔ IsListedSo (passings (moments c es)) i n page how
    both i n page how = (
      λ is. (let x = is.0 in
          let at = is.1 in
          let y : Passage = record { vm = n; page = page; how = how; from = spot_of x.before.site n page; to = spot_of x.after.site n page } in
          let stands = (all_passages c x y (accepted_at c es t i x fine h at)).0 (record { how = is.2; from = refl; to = refl }) in
          let told = listed 1 (moments c es) at.0 x stands.0 y at.2 stands.1 in
          let number : 1 + at.0 ≡ i = (let e = at.1 in omega (arith, e)) in
          record { place = told.0; passing = passing (1 + at.0) y; there = told.1; at = number; vm = refl; same = refl; so = refl }),
      λ so. (let z = so.passing in
          let was = passed 1 (moments c es) so.place z so.there in
          let number : i ≡ was.place + 1 = (let e = was.number in let d = so.at in omega (arith, e, d)) in
          let at : IsAt (moments c es) i was.moment = (was.place, number, was.there) in
          let is = (all_passages c was.moment z.passage (accepted_at c es t i was.moment fine h at)).1 (was.among, was.is) in
          (was.moment, at, sym (ap (λ k. changed was.moment k page) so.vm) ∙ sym (ap (λ k. changed was.moment z.passage.vm k) so.same) ∙ is.how ∙ ap (λ (k : How). Some k) so.so)),
    )
