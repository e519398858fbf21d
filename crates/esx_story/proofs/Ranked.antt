-- The machine of rank 1 is the one whose ratio comes first.
use Rattle.std.proofs.Common.{zero, suc, ◌≡◌, ℕ, ◌+◌, ◌<◌, ◌≤◌, Bool, true, false, not, ◌&&◌, nat_lt, ◌==◌, List, [], ◌∷◌, map, get_or, count_by, refl, sym, ap, ◌∙◌, subst, arith, cond, Option, Some, None, inl, inr, ◌⊎◌, ◌↔◌}
use Rattle.std.specs.List.{AllByRecursion, filter, find, fold}
use Rattle.std.specs.Option.{option_map}
use Rattle.std.proofs.lemmas.List.Sums.{sum_by-cons}
use Rattle.std.proofs.lemmas.Bool.Decides.{nat_tests}
use Rattle.std.proofs.Math.Nat.{mul-pos}
use Rattle.esx_types.specs.declared.config.Config.{Config}
use Rattle.esx_types.specs.declared.config.TheConstants.{MAX_TAU}
use Rattle.esx_events.specs.declared.call.Help.TheVariants as helps
use Rattle.esx_formulas.specs.declared.targets.Row.{Row}
use Rattle.esx_formulas.specs.declared.activity.TheConstants.{WHOLE}
use Rattle.esx_formulas.specs.Ratio.{Claim, claim, ComesNoLater}
use Rattle.esx_formulas.specs.Targets.{comes_no_later, sooner, first_claim}
use Rattle.esx_formulas.proofs.Claims.{comes_from_test, comes_from_no_test, test_from_comes}
use Rattle.esx_formulas.proofs.RatioLaws.{tax_most, no_later_self, no_later_chain, no_later_same, price_above_none}
use Rattle.esx_model.specs.declared.scene.Vm.{Vm}
use Rattle.esx_model.specs.declared.scene.Site.{Site}
use Rattle.esx_model.specs.Site.{resident}
use Rattle.esx_model.specs.Advice.{help_by, target_of}
use Rattle.esx_model.specs.event.Rebalancing.{row_of_vm, rows_from, rows_of}
use Rattle.esx_model.specs.sound.Sound.{IsSound}
use Rattle.esx_model.specs.sound.Machines.{IsVm}
use Rattle.esx_model.proofs.Callers.{active_is_share, all_map, eqb_same}
use Rattle.esx_story.specs.Laws.{IsRanked, IsNextFirst}
use Rattle.esx_story.specs.Order.{above_of, above, sooner_row, is_other_above, rank_of, rank_among, rank}
use Rattle.esx_story.proofs.Bits.{equal}

apart : (a b n : ℕ) → a < b → (b == n) ≡ true → (a == n) ≡ false
apart a b n less h = grind (arith, nat_tests)

below : (a b : ℕ) → nat_lt a b ≡ true → a < b
below a b h = grind (arith, nat_tests)

-- the first of some ratios
abbrev first_of : Option Claim → List Claim → Option Claim
first_of best [] = best
first_of best (x ∷ xs) = first_of (sooner best x) xs

abbrev is_above : Row → Bool
is_above row = nat_lt row.floor row.pages

abbrev claimed : Row → Claim
claimed row = claim row row.pages

abbrev fold_of : Option Claim → List Row → Option Claim
fold_of best rows = fold (λ o row. cond (is_above row) (sooner o (claimed row)) o) best rows

first_one : (row : Row) (rows : List Row) (best : Option Claim) (b : Bool) → ((o : Option Claim) → fold_of o rows ≡ first_of o (above_of rows))
    → fold_of (cond b (sooner best (claimed row)) best) rows ≡ first_of best (map claimed (cond b (row ∷ filter is_above rows) (filter is_above rows)))
first_one row rows best true rest = rest (sooner best (claimed row))
first_one row rows best false rest = rest best

first_from : (rows : List Row) (best : Option Claim) → fold_of best rows ≡ first_of best (above_of rows)
first_from [] best = refl
first_from (row ∷ rows) best = first_one row rows best (is_above row) (λ o. first_from rows o)

first_is : (rows : List Row) → first_claim rows ≡ first_of None (above_of rows)
unfolding first_claim
first_is rows = first_from rows None

-- Lists of ratios, each with some pages.

abbrev IsWhole : Claim → Type 0
IsWhole a = 0 < a.under

abbrev IsIn : Claim → List Claim → Type 0
IsIn a [] = ⊥
IsIn a (x ∷ xs) = (x ≡ a) ⊎ IsIn a xs

all_in : (P : Claim → Type 0) (a : Claim) (xs : List Claim) → AllByRecursion P xs → IsIn a xs → P a
all_in P a [] all is = absurd is
all_in P a (x ∷ xs) all is = elim is [
  | inl e ↦ subst P e all.0
  | inr more ↦ all_in P a xs all.1 more
]

-- the first is one of them, and comes no later than any
record IsFirst (a : Claim) (xs : List Claim) (b : Claim) : Type 0 where
  among : (a ≡ b) ⊎ IsIn b xs
  whole : IsWhole b
  own : ComesNoLater b a
  all : AllByRecursion (ComesNoLater b) xs

some_claim : (a b : Claim) → Some a ≡ Some b → a ≡ b
some_claim a b h = cc

first_by : (xs : List Claim) (a b : Claim) → IsWhole a → AllByRecursion IsWhole xs → first_of (Some a) xs ≡ Some b → IsFirst a xs b
first_by [] a b whole all h =
    let same = some_claim a b h in
    let P : Claim → Type 0 = λ x. IsFirst a [] x in
    subst P same (record { among = inl refl; whole = whole; own = no_later_self a; all = tt })
first_by (x ∷ xs) a b whole all h = by (λ k. first_by xs a b whole all.1 k) (λ k. first_by xs x b all.0 all.1 k) (comes_no_later a x) refl h
  where
    by : (first_of (Some a) xs ≡ Some b → IsFirst a xs b) → (first_of (Some x) xs ≡ Some b → IsFirst x xs b) → (t : Bool) → comes_no_later a x ≡ t → first_of (cond t (Some a) (Some x)) xs ≡ Some b → IsFirst a (x ∷ xs) b
    by stay move true e k =
        let rest = stay k in
        record {
          among = elim rest.among [ inl same ↦ inl same | inr more ↦ inr (inr more) ];
          whole = rest.whole;
          own = rest.own;
          all = (no_later_chain b a x rest.whole whole all.0 rest.own (comes_from_test a x e), rest.all);
        }
    by stay move false e k =
        let rest = move k in
        record {
          among = elim rest.among [ inl same ↦ inr (inl same) | inr more ↦ inr (inr more) ];
          whole = rest.whole;
          own = no_later_chain b x a rest.whole all.0 whole rest.own (comes_from_no_test a x e);
          all = (rest.own, rest.all);
        }

record IsFirstOf (xs : List Claim) (b : Claim) : Type 0 where
  among : IsIn b xs
  all : AllByRecursion (ComesNoLater b) xs

first_found : (xs : List Claim) (b : Claim) → AllByRecursion IsWhole xs → first_of None xs ≡ Some b → IsFirstOf xs b
first_found [] b all h = absurd (no_claim b h)
  where
    no_claim : (b : Claim) → None ≡ Some b → ⊥
    no_claim b h = cc
first_found (x ∷ xs) b all h =
    let first = first_by xs x b all.0 all.1 h in
    record { among = first.among; all = (first.own, first.all) }

-- there is a first where there is any
sooner_some : (xs : List Claim) (a : Claim) → (b : Claim) × (first_of (Some a) xs ≡ Some b)
sooner_some [] a = (a, refl)
sooner_some (x ∷ xs) a = by (sooner_some xs) (comes_no_later a x)
  where
    by : ((y : Claim) → (b : Claim) × (first_of (Some y) xs ≡ Some b)) → (t : Bool) → (b : Claim) × (first_of (cond t (Some a) (Some x)) xs ≡ Some b)
    by rest true = rest a
    by rest false = rest x

first_some : (xs : List Claim) (a : Claim) → IsIn a xs → (b : Claim) × (first_of None xs ≡ Some b)
first_some [] a is = absurd is
first_some (x ∷ xs) a is = sooner_some xs x

-- Found by number.

abbrev is_number : ℕ → Claim → Bool
is_number n a = a.vm == n

found_in : (n : ℕ) (xs : List Claim) (a : Claim) → find (is_number n) xs ≡ Some a → IsIn a xs × (a.vm ≡ n)
found_in n [] a h = cc
found_in n (x ∷ xs) a h = by (λ k. found_in n xs a k) (is_number n x) refl h
  where
    by : (find (is_number n) xs ≡ Some a → IsIn a xs × (a.vm ≡ n)) → (b : Bool) → is_number n x ≡ b → cond b (Some x) (find (is_number n) xs) ≡ Some a → IsIn a (x ∷ xs) × (a.vm ≡ n)
    by more true e k =
        let same = some_claim x a k in
        (inl same, ap (λ (y : Claim). y.vm) (sym same) ∙ equal x.vm n e)
    by more false e k = (let rest = more k in (inr rest.0, rest.1))

abbrev AreRising : List Claim → Type 0
AreRising [] = Unit {0}
AreRising (x ∷ xs) = AllByRecursion (λ (y : Claim). x.vm < y.vm) xs × AreRising xs

in_found : (n : ℕ) (xs : List Claim) (a : Claim) → AreRising xs → IsIn a xs → a.vm ≡ n → find (is_number n) xs ≡ Some a
in_found n [] a rising is e = absurd is
in_found n (x ∷ xs) a rising is e = elim is [
  | inl same ↦ ap (λ b. cond b (Some x) (find (is_number n) xs)) (ap (λ k. k == n) (ap (λ (y : Claim). y.vm) same ∙ e) ∙ eqb_same n) ∙ ap (λ y. Some y) same
  | inr more ↦ (let less = all_in (λ y. x.vm < y.vm) a xs rising.0 more in
      ap (λ b. cond b (Some x) (find (is_number n) xs)) (apart x.vm a.vm n less (ap (λ k. k == n) e ∙ eqb_same n)) ∙ in_found n xs a rising.1 more e)
]

-- The rank.

none_sooner : (own : Claim) (xs : List Claim) → AllByRecursion (ComesNoLater own) xs → count_by (λ a. not (comes_no_later own a)) xs ≡ 0
none_sooner own [] all = refl
none_sooner own (x ∷ xs) all =
    let a = sum_by-cons (λ a. cond (not (comes_no_later own a)) 1 0) x xs in
    let none : cond (not (comes_no_later own x)) 1 0 ≡ 0 = ap (λ b. let n : ℕ = cond (not b) 1 0 in n) (test_from_comes own x all.0) in
    let rest = none_sooner own xs all.1 in
    omega (arith, a, none, rest)

all_later : (own : Claim) (xs : List Claim) → count_by (λ a. not (comes_no_later own a)) xs ≡ 0 → AllByRecursion (ComesNoLater own) xs
all_later own [] h = tt
all_later own (x ∷ xs) h = by (λ k. all_later own xs k) (comes_no_later own x) refl
  where
    by : (count_by (λ a. not (comes_no_later own a)) xs ≡ 0 → AllByRecursion (ComesNoLater own) xs) → (b : Bool) → comes_no_later own x ≡ b → AllByRecursion (ComesNoLater own) (x ∷ xs)
    by rest true e =
        let a = sum_by-cons (λ a. cond (not (comes_no_later own a)) 1 0) x xs in
        (comes_from_test own x e, rest (let none : cond (not (comes_no_later own x)) 1 0 ≡ 0 = ap (λ b. let n : ℕ = cond (not b) 1 0 in n) e in omega (arith, a, h, none)))
    by rest false e =
        let a = sum_by-cons (λ a. cond (not (comes_no_later own a)) 1 0) x xs in
        let one : cond (not (comes_no_later own x)) 1 0 ≡ 1 = ap (λ b. let n : ℕ = cond (not b) 1 0 in n) e in
        absurd (omega (arith, a, h, one))

named : (xs : List Claim) (n : ℕ) (above_min : Bool) (o : Option Claim) → AllByRecursion IsWhole xs → AreRising xs → first_of None xs ≡ o → help_by above_min o ≡ helps.SwapOut n → rank_among xs n ≡ Some 1
named xs n true None whole rising first h = cc
named xs n false None whole rising first h = cc
named xs n above_min (Some b) whole rising first h =
    let number : b.vm ≡ n = swap_number b.vm n h in
    let is = first_found xs b whole first in
    let count = none_sooner b xs is.all in
    ap (option_map (rank_of xs)) (in_found n xs b rising is.among number) ∙ ap (λ k. Some (1 + k)) count
  where
    swap_number : (a b : ℕ) → helps.SwapOut a ≡ helps.SwapOut b → a ≡ b
    swap_number a b h = cc

record Ranks (xs : List Claim) (n : ℕ) : Type 0 where
  own : Claim
  found : find (is_number n) xs ≡ Some own
  count : count_by (λ a. not (comes_no_later own a)) xs ≡ 0

ranks : (xs : List Claim) (n : ℕ) (o : Option Claim) → find (is_number n) xs ≡ o → option_map (rank_of xs) o ≡ Some 1 → Ranks xs n
ranks xs n None found h = cc
ranks xs n (Some own) found h = record { own = own; found = found; count = (let e = some_number (rank_of xs own) 1 h in omega (arith, e)) }
  where
    some_number : (a b : ℕ) → Some a ≡ Some b → a ≡ b
    some_number a b h = cc

first_named : (xs : List Claim) (n : ℕ) (above_min : Bool) → AllByRecursion IsWhole xs → rank_among xs n ≡ Some 1 → help_by above_min (first_of None xs) ≡ helps.SwapOut n
first_named xs n above_min whole h =
    let r = ranks xs n (find (is_number n) xs) refl h in
    let own = r.own in
    let among = found_in n xs own r.found in
    let some = first_some xs own among.0 in
    let b = some.0 in
    let first = first_found xs b whole some.1 in
    let same = no_later_same b own (all_in (ComesNoLater b) own xs first.all among.0) (all_in (ComesNoLater own) b xs (all_later own xs r.count) first.among) in
    ap (help_by above_min) some.1 ∙ ap (λ k. helps.SwapOut k) (same ∙ among.1)

-- The ratios of a sound site are in order of number, each with some pages.

record AreFine (n : ℕ) (xs : List Claim) : Type 0 where
  from : AllByRecursion (λ (a : Claim). n ≤ a.vm) xs
  whole : AllByRecursion IsWhole xs
  rising : AreRising xs

fine_later : (n : ℕ) (xs : List Claim) → AreFine (n + 1) xs → AreFine n xs
fine_later n xs fine = record { from = all_map (λ (a : Claim). n + 1 ≤ a.vm) (λ (a : Claim). n ≤ a.vm) (λ a h. omega (arith, h)) xs fine.from; whole = fine.whole; rising = fine.rising }

-- a ratio of some pages
whole_claim : (row : Row) (pages : ℕ) → row.tau ≤ MAX_TAU → row.active ≤ WHOLE → 0 < pages → 0 < (claim row pages).under
whole_claim row pages low share some = mul-pos some (price_above_none row.tau row.active low share)

fine_one : (n : ℕ) (row : Row) (rows : List Row) (b : Bool) → row.tau ≤ MAX_TAU → row.vm ≡ n → row.active ≤ WHOLE → nat_lt row.floor row.pages ≡ b → AreFine (n + 1) (above_of rows)
    → AreFine n (map claimed (cond b (row ∷ filter is_above rows) (filter is_above rows)))
fine_one n row rows false low number share e fine = fine_later n (above_of rows) fine
fine_one n row rows true low number share e fine =
    let more = fine_later n (above_of rows) fine in
    let pages = below row.floor row.pages e in
    record {
      from = (omega (arith, number), more.from);
      whole = (whole_claim row row.pages low share (omega (arith, pages)), fine.whole);
      rising = (all_map (λ (a : Claim). n + 1 ≤ a.vm) (λ (a : Claim). row.vm < a.vm) (λ a h. omega (arith, h, number)) (above_of rows) fine.from, fine.rising);
    }

fine_from : (c : Config) (tau n : ℕ) (vms : List (Option Vm)) → tau ≤ MAX_TAU → ((k : ℕ) (v : Vm) → get_or vms k None ≡ Some v → IsVm c v) → AreFine n (above_of (rows_from tau target_of n vms))
fine_from c tau n [] low each = record { from = tt; whole = tt; rising = tt }
fine_from c tau n (None ∷ vms) low each = fine_later n (above_of (rows_from tau target_of (n + 1) vms)) (fine_from c tau (n + 1) vms low (λ k v h. each (suc k) v h))
fine_from c tau n (Some v ∷ vms) low each =
    let row = row_of_vm tau n (target_of v) v in
    fine_one n row (rows_from tau target_of (n + 1) vms) (is_above row) (tax_most tau v.spec.tau low (each 0 v refl).good.most_tau) refl (active_is_share c v (each 0 v refl)) refl (fine_from c tau (n + 1) vms low (λ k v h. each (suc k) v h))

fine_of : (c : Config) (s : Site) → IsSound c s → AreFine 0 (above s)
unfolding rows_of
fine_of c s sound = fine_from c s.tau 0 s.vms sound.tau (λ k v h. sound.each k v h)

pub first_is_named : (c : Config) (s : Site) (n : ℕ) (above_min : Bool) → IsSound c s → (rank s n ≡ Some 1) ↔ (help_by above_min (first_claim (rows_of target_of s)) ≡ helps.SwapOut n)
first_is_named c s n above_min sound =
    let fine = fine_of c s sound in
    let first = first_is (rows_of target_of s) in (
      λ h. ap (help_by above_min) first ∙ first_named (above s) n above_min fine.whole h,
      λ h. named (above s) n above_min (first_of None (above s)) fine.whole fine.rising refl (sym (ap (help_by above_min) first) ∙ h),
    )

-- Who has a rank.

row_ranked : (n : ℕ) (row : Row) (rows : List Row) (m : ℕ) (b : Bool) → row.vm ≡ n → nat_lt row.floor row.pages ≡ b → (a : Claim)
    → find (is_number m) (map claimed (cond b (row ∷ filter is_above rows) (filter is_above rows))) ≡ Some a → (((n ≡ m) × (row.floor < row.pages)) ⊎ (find (is_number m) (above_of rows) ≡ Some a))
row_ranked n row rows m false number e a h = inr h
row_ranked n row rows m true number e a h = by (is_number m (claimed row)) refl h
  where
    by : (t : Bool) → is_number m (claimed row) ≡ t → cond t (Some (claimed row)) (find (is_number m) (above_of rows)) ≡ Some a → ((n ≡ m) × (row.floor < row.pages)) ⊎ (find (is_number m) (above_of rows) ≡ Some a)
    by true k h = inl (sym number ∙ equal row.vm m k, below row.floor row.pages e)
    by false k h = inr h

abbrev IsOver : List (Option Vm) → ℕ → Type 0
IsOver vms k = (v : Vm) × (get_or vms k None ≡ Some v) × (v.target < resident v)

ranked_over : (tau n : ℕ) (vms : List (Option Vm)) (m : ℕ) (a : Claim) → find (is_number m) (above_of (rows_from tau target_of n vms)) ≡ Some a → (k : ℕ) × (m ≡ n + k) × IsOver vms k
ranked_over tau n [] m a h = absurd (no_claim_here a h)
  where
    no_claim_here : (b : Claim) → None ≡ Some b → ⊥
    no_claim_here b h = cc
ranked_over tau n (None ∷ vms) m a h = (let rest = ranked_over tau (n + 1) vms m a h in let number = rest.1 in (suc rest.0, omega (arith, number), rest.2))
ranked_over tau n (Some v ∷ vms) m a h = elim (row_ranked n (row_of_vm tau n (target_of v) v) (rows_from tau target_of (n + 1) vms) m (is_above (row_of_vm tau n (target_of v) v)) refl refl a h) [
  | inl own ↦ (let number = own.0 in (0, omega (arith, number), (v, refl, own.1)))
  | inr more ↦ (let rest = ranked_over tau (n + 1) vms m a more in let number = rest.1 in (suc rest.0, omega (arith, number), rest.2))
]

above_test : (a b : ℕ) → a < b → nat_lt a b ≡ true
above_test a b h = grind (arith, nat_tests)

abbrev HasClaim : List Claim → ℕ → Type 0
HasClaim xs m = (a : Claim) × (find (is_number m) xs ≡ Some a)

claim_later : (x : Claim) (xs : List Claim) (m : ℕ) → HasClaim xs m → HasClaim (x ∷ xs) m
claim_later x xs m has = by (is_number m x)
  where
    by : (t : Bool) → (a : Claim) × (cond t (Some x) (find (is_number m) xs) ≡ Some a)
    by true = (x, refl)
    by false = has

claim_skips : (row : Row) (rows : List Row) (m : ℕ) (b : Bool) → HasClaim (above_of rows) m → HasClaim (map claimed (cond b (row ∷ filter is_above rows) (filter is_above rows))) m
claim_skips row rows m false has = has
claim_skips row rows m true has = claim_later (claimed row) (above_of rows) m has

over_ranked : (tau n : ℕ) (vms : List (Option Vm)) (k : ℕ) → IsOver vms k → HasClaim (above_of (rows_from tau target_of n vms)) (n + k)
over_ranked tau n [] k over = absurd (no_vm over.0 over.1)
  where
    no_vm : (v : Vm) → None ≡ Some v → ⊥
    no_vm v h = cc
over_ranked tau n (None ∷ vms) zero over = absurd (no_vm over.0 over.1)
  where
    no_vm : (v : Vm) → None ≡ Some v → ⊥
    no_vm v h = cc
over_ranked tau n (None ∷ vms) (suc k) over =
    let P : ℕ → Type 0 = HasClaim (above_of (rows_from tau target_of (n + 1) vms)) in
    subst P (omega arith) (over_ranked tau (n + 1) vms k over)
over_ranked tau n (Some v ∷ vms) zero over =
    let row = row_of_vm tau n (target_of v) v in
    let rows = rows_from tau target_of (n + 1) vms in
    let own : v ≡ over.0 = some_vm v over.0 over.1 in
    let P : Vm → Type 0 = λ x. x.target < resident x in
    let test : is_above row ≡ true = above_test v.target (resident v) (subst P (sym own) over.2) in
    let Q : Bool → Type 0 = λ b. HasClaim (map claimed (cond b (row ∷ filter is_above rows) (filter is_above rows))) (n + 0) in
    let number : is_number (n + 0) (claimed row) ≡ true = ap (λ j. n == j) (let e : n + 0 ≡ n = omega arith in e) ∙ eqb_same n in
    subst Q (sym test) (claimed row, ap (λ b. cond b (Some (claimed row)) (find (is_number (n + 0)) (above_of rows))) number)
  where
    some_vm : (v w : Vm) → Some v ≡ Some w → v ≡ w
    some_vm v w h = cc
over_ranked tau n (Some v ∷ vms) (suc k) over =
    let row = row_of_vm tau n (target_of v) v in
    let P : ℕ → Type 0 = HasClaim (above_of (rows_from tau target_of n (Some v ∷ vms))) in
    let e : n + 1 + k ≡ n + suc k = omega arith in
    subst P e (claim_skips row (rows_from tau target_of (n + 1) vms) (n + 1 + k) (is_above row) (over_ranked tau (n + 1) vms k over))

rank_has : (xs : List Claim) (n k : ℕ) (o : Option Claim) → find (is_number n) xs ≡ o → option_map (rank_of xs) o ≡ Some k → HasClaim xs n
rank_has xs n k None found h = cc
rank_has xs n k (Some a) found h = (a, found)

pub are_ranked : IsRanked
unfolding rows_of
are_ranked s n = (
  λ r. (let has = rank_has (above s) n r.0 (find (is_number n) (above s)) refl r.1 in
      let over = ranked_over s.tau 0 s.vms n has.0 has.1 in
      let number : over.0 ≡ n = (let e = over.1 in omega (arith, e)) in
      let P : ℕ → Type 0 = IsOver s.vms in
      subst P number over.2),
  λ over. (let P : ℕ → Type 0 = HasClaim (above s) in
      let e : 0 + n ≡ n = omega arith in
      let has = subst P e (over_ranked s.tau 0 s.vms n over) in
      (rank_of (above s) has.0, ap (option_map (rank_of (above s))) has.1)),
)

-- Who comes next.

abbrev claim_of : Option Row → Option Claim
claim_of o = option_map claimed o

sooner_claimed : (best : Option Row) (row : Row) → claim_of (sooner_row best row) ≡ sooner (claim_of best) (claimed row)
sooner_claimed None row = refl
sooner_claimed (Some best) row = by (comes_no_later (claimed best) (claimed row))
  where
    by : (b : Bool) → claim_of (cond b (Some best) (Some row)) ≡ cond b (Some (claimed best)) (Some (claimed row))
    by true = refl
    by false = refl

abbrev next_fold : ℕ → Option Row → List Row → Option Row
next_fold n best rows = fold (λ o row. cond (is_other_above n row) (sooner_row o row) o) best rows

next_by : (n : ℕ) (row : Row) (rows : List Row) (best : Option Row) (a b : Bool) → ((o : Option Row) → claim_of (next_fold n o rows) ≡ fold_of (claim_of o) (filter (λ (row : Row). not (row.vm == n)) rows))
    → row.vm == n ≡ a → is_above row ≡ b
    → claim_of (next_fold n (cond (not a && b) (sooner_row best row) best) rows)
    ≡ fold_of (claim_of best) (cond (not a) (row ∷ filter (λ (row : Row). not (row.vm == n)) rows) (filter (λ (row : Row). not (row.vm == n)) rows))
next_by n row rows best true b rest own above = rest best
next_by n row rows best false true rest own above =
    rest (sooner_row best row) ∙ ap (λ o. fold_of o (filter (λ (row : Row). not (row.vm == n)) rows))
    (sooner_claimed best row ∙ ap (λ b. cond b (sooner (claim_of best) (claimed row)) (claim_of best)) (sym above))
next_by n row rows best false false rest own above =
    rest best ∙ ap (λ b. fold_of (cond b (sooner (claim_of best) (claimed row)) (claim_of best)) (filter (λ (row : Row). not (row.vm == n)) rows)) (sym above)

next_from : (n : ℕ) (rows : List Row) (best : Option Row) → claim_of (next_fold n best rows) ≡ fold_of (claim_of best) (filter (λ (row : Row). not (row.vm == n)) rows)
next_from n [] best = refl
next_from n (row ∷ rows) best = next_by n row rows best (row.vm == n) (is_above row) (λ o. next_from n rows o) refl refl

pub next_is_first : IsNextFirst
unfolding first_claim
next_is_first s n = next_from n (rows_of target_of s) None
