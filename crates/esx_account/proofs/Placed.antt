-- The refusals that were met on a path are in order of place, and on it.
use Rattle.std.proofs.Common.{◌≡◌, ◌==◌, ℕ, ◌+◌, ◌<◌, ◌≤◌, Bool, true, false, cond, if◌then◌else◌, nat_le, List, [], ◌∷◌, length, Option, Some, None, refl, arith, length-append}
use Rattle.std.specs.Prelude.{filter_map, option_map}
use Rattle.std.specs.List.{AllByRecursion, cons_option, position_from}
use Rattle.std.specs.Option.{option_to_list}
use Rattle.std.proofs.lemmas.Bool.Decides.{nat_tests}
use Rattle.esx_types.specs.Listings.{with_placed, in_order}
use Rattle.esx_events.specs.declared.event.Refusal.{Refusal}
use Rattle.esx_events.specs.declared.call.Line.{Line}
use Rattle.esx_model.specs.History.{History, opened, cursor}
use Rattle.esx_model.specs.Console.{Session, outcome, after}
use Rattle.esx_paths.specs.declared.makers.RefusedCall.{RefusedCall}
use Rattle.esx_paths.specs.declared.mets.Met.{Met}
use Rattle.esx_paths.specs.Makers.{gathered, refused_at, refusal_in, refusal_of, refusals}
use Rattle.esx_paths.specs.Paths.{met_on, mets_on, mets_off, nodes_to}
use Rattle.esx_paths.proofs.Lists.{in_order_length, mapped_and_not}
use Rattle.esx_account.specs.Surveying.{NeverFall}

abbrev place : Met → ℕ
place m = m.at

tells_at_most : (a b : ℕ) → nat_le a b ≡ true → a ≤ b
tells_at_most a b e = grind (arith, nat_tests)

tells_above : (a b : ℕ) → nat_le a b ≡ false → b ≤ a
tells_above a b e = grind (arith, nat_tests)

-- one more at its place
placed_rises : (low : ℕ) (x : Met) (ys : List Met) → low ≤ x.at → NeverFall low ys → NeverFall low (with_placed place x ys)
placed_rises low x [] le rise = (le, tt)
placed_rises low x (y ∷ ys) le rise = of (nat_le x.at y.at) refl (placed_rises y.at x ys)
  where
    of : (b : Bool) → nat_le x.at y.at ≡ b → (y.at ≤ x.at → NeverFall y.at ys → NeverFall y.at (with_placed place x ys))
        → NeverFall low (if b then x ∷ y ∷ ys else y ∷ with_placed place x ys)
    of true e more = (le, (tells_at_most x.at y.at e, rise.1))
    of false e more = (rise.0, more (tells_above x.at y.at e) rise.1)

order_rises : (xs : List Met) → NeverFall 0 (in_order place xs)
order_rises [] = tt
order_rises (x ∷ xs) = placed_rises 0 x (in_order place xs) (omega arith) (order_rises xs)

-- what holds of each holds of each in order
abbrev pub EachWithin : ℕ → List Met → Type 0
EachWithin most = AllByRecursion (λ (m : Met). m.at ≤ most)

placed_within : (most : ℕ) (x : Met) (ys : List Met) → x.at ≤ most → EachWithin most ys → EachWithin most (with_placed place x ys)
placed_within most x [] le each = (le, tt)
placed_within most x (y ∷ ys) le each = of (nat_le x.at y.at) (placed_within most x ys le each.1)
  where
    of : (b : Bool) → EachWithin most (with_placed place x ys) → EachWithin most (if b then x ∷ y ∷ ys else y ∷ with_placed place x ys)
    of true more = (le, each)
    of false more = (each.0, more)

order_within : (most : ℕ) (xs : List Met) → EachWithin most xs → EachWithin most (in_order place xs)
order_within most [] each = tt
order_within most (x ∷ xs) each = placed_within most x (in_order place xs) each.0 (order_within most xs each.1)

-- the place of a number is one of those that there are
position_within : (p : ℕ → Bool) (k : ℕ) (xs : List ℕ) (i : ℕ) → position_from p k xs ≡ Some i → i < k + length xs
position_within p k [] i is = cc
position_within p k (x ∷ xs) i is = of (p x) is (position_within p (k + 1) xs i)
  where
    of : (b : Bool) → cond b (Some k) (position_from p (k + 1) xs) ≡ Some i → (position_from p (k + 1) xs ≡ Some i → i < k + 1 + length xs) → i < k + length (x ∷ xs)
    of true e more = (let same : k ≡ i = cc in omega arith)
    of false e more = (let below = more e in omega arith)

met_within : (most : ℕ) (o : Option ℕ) (r : RefusedCall) (m : Met) → ((i : ℕ) → o ≡ Some i → i ≤ most) → option_map (λ (at : ℕ). record { at = at; access = r.access; refusal = r.refusal }) o ≡ Some m → m.at ≤ most
met_within most None r m below is = cc
met_within most (Some i) r m below is =
    let here : Some (record { at = i; access = r.access; refusal = r.refusal }) ≡ Some m = is in
    let same : i ≡ m.at = one (record { at = i; access = r.access; refusal = r.refusal }) m here in
    let low = below i refl in
    omega arith
  where
    one : (x y : Met) → Some x ≡ Some y → x.at ≡ y.at
    one x y e = cc

filter_within : (most : ℕ) (f : RefusedCall → Option Met) (rs : List RefusedCall) → ((r : RefusedCall) (m : Met) → f r ≡ Some m → m.at ≤ most) → EachWithin most (filter_map f rs)
filter_within most f [] each = tt
filter_within most f (r ∷ rs) each = of (f r) (each r) (filter_within most f rs each)
  where
    of : (o : Option Met) → ((m : Met) → o ≡ Some m → m.at ≤ most) → EachWithin most (filter_map f rs) → EachWithin most (cons_option o (filter_map f rs))
    of None here rest = rest
    of (Some m) here rest = (here m refl, rest)

pub mets_rise : (s : Session) (node : ℕ) → NeverFall 0 (mets_on s node)
mets_rise s node = order_rises (filter_map (met_on (nodes_to s node)) (refusals s))

pub mets_within : (s : Session) (node most : ℕ) → length (nodes_to s node) ≡ most + 1 → EachWithin most (mets_on s node)
mets_within s node most long =
    let nodes = nodes_to s node in
    order_within most (filter_map (met_on nodes) (refusals s)) (filter_within most (met_on nodes) (refusals s)
    (λ r m is. met_within most (position_from (λ n. n == r.node) 0 nodes) r m (λ i at. (let below = position_within (λ n. n == r.node) 0 nodes i at in omega arith)) is))

-- no more were met than there are calls

few_each : {A : Type 0} (adds : History → ℕ → Line → List A) (h : History) (number : ℕ) (log : List Line) → ((h : History) (number : ℕ) (x : Line) → length (adds h number x) ≤ 1) → length (gathered adds h number log) ≤ length log
unfolding gathered
few_each adds h number [] each = omega arith
few_each adds h number (x ∷ log) each =
    let here = each h number x in
    let rest = few_each adds (after h x.call) (number + 1) log each in
    let both = length-append (adds h number x) (gathered adds (after h x.call) (number + 1) log) in
    omega arith

one_at_most : (o : Option Refusal) (make : Refusal → RefusedCall) → length (option_to_list (option_map make o)) ≤ 1
one_at_most None make = omega arith
one_at_most (Some r) make = omega arith

refusals_few : (s : Session) → length (refusals s) ≤ length s.log
refusals_few s = few_each refusal_of (opened s.site) 1 s.log (λ h number x. one_at_most (refusal_in (outcome h x.call).0) (refused_at (cursor h) number x.call))

pub mets_few : (s : Session) (node : ℕ) → length (mets_on s node) ≤ length s.log
mets_few s node =
    let met = filter_map (met_on (nodes_to s node)) (refusals s) in
    let placed = in_order_length place met in
    let parted = mapped_and_not (met_on (nodes_to s node)) (refusals s) in
    let few = refusals_few s in
    omega arith

pub elsewhere_few : (s : Session) (node : ℕ) → mets_off s node ≤ length s.log
elsewhere_few s node =
    let parted = mapped_and_not (met_on (nodes_to s node)) (refusals s) in
    let few = refusals_few s in
    omega arith
