-- How many pages of each machine are in shared frames after an event.
use Rattle.std.proofs.Common.{◌≡◌, ℕ, ◌+◌, ◌-◌, ◌<◌, ◌≤◌, List, length, refl, ap, ◌∙◌, arith, Option, Some, None, inl, inr}
use Rattle.std.proofs.lemmas.List.{get_or-set_same, get_or-set_other, get_or_past, length-set}
use Rattle.std.proofs.lemmas.Bool.{cases_eq, cases_lt}
use Rattle.esx_model.proofs.Callers.{one}
use Rattle.esx_story.proofs.Bits.{named, not_named}
use Rattle.esx_figures.specs.Sharing.{one_of}
use Rattle.esx_watch.specs.Shifting.{shared_at, raised, lowered, shifted, AreAtMost}

pub one_most : (n : ℕ) (o : Option ℕ) → one_of n o ≤ 1
one_most n None = omega arith
one_most n (Some m) = elim (cases_eq n m) [
  | inl e ↦ (let is : one_of n (Some m) ≡ 1 = ap one (named m n e) in omega (arith, is))
  | inr other ↦ (let is : one_of n (Some m) ≡ 0 = ap one (not_named m n other) in omega (arith, is))
]

pub raised_long : (xs : List ℕ) (o : Option ℕ) → length (raised xs o) ≡ length xs
raised_long xs None = refl
raised_long xs (Some m) = length-set xs m _

pub lowered_long : (xs : List ℕ) (o : Option ℕ) → length (lowered xs o) ≡ length xs
lowered_long xs None = refl
lowered_long xs (Some m) = length-set xs m _

pub raised_at : (xs : List ℕ) (o : Option ℕ) (n : ℕ) → n < length xs → shared_at (raised xs o) n ≡ shared_at xs n + one_of n o
raised_at xs None n below = omega arith
raised_at xs (Some m) n below = elim (cases_eq n m) [
  | inl e ↦ (let at : shared_at (raised xs (Some m)) m ≡ shared_at xs m + 1 = get_or-set_same xs m (shared_at xs m + 1) 0 (omega (arith, e, below)) in
      let new : shared_at (raised xs (Some m)) n ≡ shared_at (raised xs (Some m)) m = ap (shared_at (raised xs (Some m))) e in
      let old : shared_at xs n ≡ shared_at xs m = ap (shared_at xs) e in
      let is : one_of n (Some m) ≡ 1 = ap one (named m n e) in
      omega (arith, at, new, old, is))
  | inr other ↦ (let at : shared_at (raised xs (Some m)) n ≡ shared_at xs n = get_or-set_other xs m n (shared_at xs m + 1) 0 other in
      let is : one_of n (Some m) ≡ 0 = ap one (not_named m n other) in
      omega (arith, at, is))
]

pub lowered_at : (xs : List ℕ) (o : Option ℕ) (n : ℕ) → n < length xs → shared_at (lowered xs o) n ≡ shared_at xs n - one_of n o
lowered_at xs None n below = omega arith
lowered_at xs (Some m) n below = elim (cases_eq n m) [
  | inl e ↦ (let at : shared_at (lowered xs (Some m)) m ≡ shared_at xs m - 1 = get_or-set_same xs m (shared_at xs m - 1) 0 (omega (arith, e, below)) in
      let new : shared_at (lowered xs (Some m)) n ≡ shared_at (lowered xs (Some m)) m = ap (shared_at (lowered xs (Some m))) e in
      let old : shared_at xs n ≡ shared_at xs m = ap (shared_at xs) e in
      let is : one_of n (Some m) ≡ 1 = ap one (named m n e) in
      omega (arith, at, new, old, is))
  | inr other ↦ (let at : shared_at (lowered xs (Some m)) n ≡ shared_at xs n = get_or-set_other xs m n (shared_at xs m - 1) 0 other in
      let is : one_of n (Some m) ≡ 0 = ap one (not_named m n other) in
      omega (arith, at, is))
]

-- one raise makes none greater by more than one
pub raised_most : (k : ℕ) (xs : List ℕ) (o : Option ℕ) → AreAtMost k xs → AreAtMost (k + 1) (raised xs o)
raised_most k xs o most n = elim (cases_lt n (length xs)) [
  | inl below ↦ (let is = raised_at xs o n below in
      let was = most n in
      let by = one_most n o in
      omega (arith, is, was, by))
  | inr past ↦ (let long = raised_long xs o in
      let is : shared_at (raised xs o) n ≡ 0 = get_or_past (raised xs o) n 0 (omega (arith, past, long)) in
      omega (arith, is))
]

-- all of it, of a machine of which one page parted, one joined and one is a host
pub shifted_at : (xs : List ℕ) (l j h : Option ℕ) (n : ℕ) → n < length xs → shared_at (shifted xs l j h) n ≡ shared_at xs n + one_of n j + one_of n h - one_of n l
shifted_at xs l j h n below =
    let one_long = raised_long xs j in
    let two_long = raised_long (raised xs j) h in
    let a = raised_at xs j n below in
    let b = raised_at (raised xs j) h n (omega (arith, below, one_long)) in
    let c = lowered_at (raised (raised xs j) h) l n (omega (arith, below, one_long, two_long)) in
    omega (arith, a, b, c)

pub shifted_long : (xs : List ℕ) (l j h : Option ℕ) → length (shifted xs l j h) ≡ length xs
shifted_long xs l j h = lowered_long (raised (raised xs j) h) l ∙ raised_long (raised xs j) h ∙ raised_long xs j
