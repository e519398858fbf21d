-- Machines of one number, as a loop comes to them.
use Rattle.std.proofs.Common.{◌≡◌, ◌≢◌, eq-eqb, ne_eqb, drop-cons, ℕ, zero, suc, ◌+◌, ◌-◌, ◌≤◌, ◌<◌, ◌==◌, nat_lt, Bool, true, false, cond, List, ◌∷◌, length, get_or, drop, refl, sym, ap, ◌∙◌, arith, Result, Ok, Err}
use Rattle.std.proofs.lemmas.List.{drop_all}
use Rattle.std.proofs.lemmas.Bool.Decides.{nat_tests}
use Rattle.esx_types.specs.declared.config.Config.{Config}
use Rattle.esx_scenario.specs.declared.plan.Guest.{Guest}
use Rattle.esx_opening.specs.Orders.{of_number}
use Rattle.esx_refused.specs.declared.coming.Promised.{Promised}
use Rattle.esx_refused.specs.declared.coming.RefusedOpening.{RefusedOpening}
use Rattle.esx_refused.specs.Promised.{promised_with, on_good, all_promised, short_of_nodes, all_started, promised_below, started_below}

-- one more machine is looked at
module _ (gs : List Guest) (i n : ℕ) (x : Guest) (lt : i < length gs) (is : x ≡ get_or gs i x) where
  here_and_later : drop i gs ≡ x ∷ drop (i + 1) gs
  here_and_later =
      let next : suc i ≡ i + 1 = omega arith in
      drop-cons gs i x lt ∙ ap (λ (y : Guest). y ∷ drop (suc i) gs) (sym is) ∙ ap (λ (k : ℕ). x ∷ drop k gs) next

  looked : (b : Bool) → (x.vm == n) ≡ b → of_number (drop i gs) n ≡ cond b (x ∷ of_number (drop (i + 1) gs) n) (of_number (drop (i + 1) gs) n)
  looked b e = ap (λ (l : List Guest). of_number l n) here_and_later ∙ ap (λ (a : Bool). cond a (x ∷ of_number (drop (i + 1) gs) n) (of_number (drop (i + 1) gs) n)) e

  pub looked_yes : x.vm ≡ n → of_number (drop i gs) n ≡ x ∷ of_number (drop (i + 1) gs) n
  looked_yes e = looked true (eq-eqb x.vm n e)

  pub looked_no : x.vm ≢ n → of_number (drop i gs) n ≡ of_number (drop (i + 1) gs) n
  looked_no ne = looked false (ne_eqb x.vm n ne)

  module _ (c : Config) (t : Promised) (there : Bool) (whole : Result Promised RefusedOpening) (left : whole ≡ all_promised c t there (of_number (drop i gs) n)) where
    admitted_yes : x.vm ≡ n → whole ≡ on_good (promised_with c t there x) (λ u. all_promised c u true (of_number (drop (i + 1) gs) n))
    unfolding all_promised
    admitted_yes e = left ∙ ap (all_promised c t there) (looked_yes e)

    pub next_admitted : x.vm ≡ n → (u : Promised) → Ok u ≡ promised_with c t there x → whole ≡ all_promised c u true (of_number (drop (i + 1) gs) n)
    next_admitted e u f = admitted_yes e ∙ ap (λ (r : Result Promised RefusedOpening). on_good r (λ u. all_promised c u true (of_number (drop (i + 1) gs) n))) (sym f)

    pub next_refused : x.vm ≡ n → (first : RefusedOpening) → Err first ≡ promised_with c t there x → whole ≡ Err first
    next_refused e first f = admitted_yes e ∙ ap (λ (r : Result Promised RefusedOpening). on_good r (λ u. all_promised c u true (of_number (drop (i + 1) gs) n))) (sym f)

    pub none_admitted : x.vm ≢ n → whole ≡ all_promised c t there (of_number (drop (i + 1) gs) n)
    none_admitted ne = left ∙ ap (all_promised c t there) (looked_no ne)

  module _ (c : Config) (made : ℕ) (whole : Result ℕ RefusedOpening) (left : whole ≡ all_started c made (of_number (drop i gs) n)) where
    started_so : x.vm ≡ n → (b : Bool) → nat_lt c.nodes (made + x.spec.overhead) ≡ b
        → whole ≡ cond b (Err (short_of_nodes c x)) (all_started c (made + x.spec.overhead) (of_number (drop (i + 1) gs) n))
    unfolding all_started
    started_so e b f =
        left ∙ ap (all_started c made) (looked_yes e)
        ∙ ap (λ a. cond a (Err (short_of_nodes c x)) (all_started c (made + x.spec.overhead) (of_number (drop (i + 1) gs) n))) f

    pub next_started : x.vm ≡ n → made + x.spec.overhead ≤ c.nodes → whole ≡ all_started c (made + x.spec.overhead) (of_number (drop (i + 1) gs) n)
    next_started e le = started_so e false (grind (arith, nat_tests))

    pub next_short : x.vm ≡ n → c.nodes < made + x.spec.overhead → whole ≡ Err (short_of_nodes c x)
    next_short e more = started_so e true (grind (arith, nat_tests))

    pub none_started : x.vm ≢ n → whole ≡ all_started c made (of_number (drop (i + 1) gs) n)
    none_started ne = left ∙ ap (all_started c made) (looked_no ne)

pub none_left : (c : Config) (t : Promised) (there : Bool) (gs : List Guest) (i n : ℕ) (whole : Result Promised RefusedOpening) → length gs ≤ i
    → whole ≡ all_promised c t there (of_number (drop i gs) n) → whole ≡ Ok t
unfolding all_promised
none_left c t there gs i n whole le left = left ∙ ap (λ (l : List Guest). all_promised c t there (of_number l n)) (drop_all i gs le)

pub none_left_to_start : (c : Config) (made : ℕ) (gs : List Guest) (i n : ℕ) (whole : Result ℕ RefusedOpening) → length gs ≤ i
    → whole ≡ all_started c made (of_number (drop i gs) n) → whole ≡ Ok made
unfolding all_started
none_left_to_start c made gs i n whole le left = left ∙ ap (λ (l : List Guest). all_started c made (of_number l n)) (drop_all i gs le)

-- the machines of one number more
pub nobody_came : (c : Config) (guests : List Guest) → promised_below c guests 0 ≡ Ok (record { nodes = 0; memory = 0; swap = 0 })
unfolding promised_below
nobody_came c guests = refl

pub nobody_started : (c : Config) (made : ℕ) (guests : List Guest) → started_below c made guests 0 ≡ Ok made
unfolding started_below
nobody_started c made guests = refl

module _ (c : Config) (guests : List Guest) (n : ℕ) where
  pub one_more_came : (t : Promised) → promised_below c guests n ≡ Ok t → promised_below c guests (n + 1) ≡ all_promised c t false (of_number guests n)
  unfolding promised_below
  one_more_came t e =
      let next : n + 1 ≡ suc n = omega arith in
      ap (promised_below c guests) next ∙ ap (λ (r : Result Promised RefusedOpening). on_good r (λ u. all_promised c u false (of_number guests n))) e

  pub one_more_started : (made now : ℕ) → started_below c made guests n ≡ Ok now → started_below c made guests (n + 1) ≡ all_started c now (of_number guests n)
  unfolding started_below
  one_more_started made now e =
      let next : n + 1 ≡ suc n = omega arith in
      ap (started_below c made guests) next ∙ ap (λ (r : Result ℕ RefusedOpening). on_good r (λ k. all_started c k (of_number guests n))) e

-- who is refused is refused whoever comes behind
refused_later : (c : Config) (guests : List Guest) (n more : ℕ) (first : RefusedOpening) → promised_below c guests n ≡ Err first → promised_below c guests (more + n) ≡ Err first
unfolding promised_below
refused_later c guests n zero first e = (let same : zero + n ≡ n = omega arith in ap (promised_below c guests) same ∙ e)
refused_later c guests n (suc more) first e =
    let next : suc more + n ≡ suc (more + n) = omega arith in
    ap (promised_below c guests) next
    ∙ ap (λ (r : Result Promised RefusedOpening). on_good r (λ u. all_promised c u false (of_number guests (more + n)))) (refused_later c guests n more first e)

pub refused_at_last : (c : Config) (guests : List Guest) (n all : ℕ) (first : RefusedOpening) → n ≤ all → promised_below c guests n ≡ Err first → promised_below c guests all ≡ Err first
refused_at_last c guests n all first le e =
    let total : (all - n) + n ≡ all = omega (arith, le) in
    sym (ap (promised_below c guests) total) ∙ refused_later c guests n (all - n) first e

short_later : (c : Config) (made : ℕ) (guests : List Guest) (n more : ℕ) (first : RefusedOpening) → started_below c made guests n ≡ Err first → started_below c made guests (more + n) ≡ Err first
unfolding started_below
short_later c made guests n zero first e = (let same : zero + n ≡ n = omega arith in ap (started_below c made guests) same ∙ e)
short_later c made guests n (suc more) first e =
    let next : suc more + n ≡ suc (more + n) = omega arith in
    ap (started_below c made guests) next
    ∙ ap (λ (r : Result ℕ RefusedOpening). on_good r (λ k. all_started c k (of_number guests (more + n)))) (short_later c made guests n more first e)

pub short_at_last : (c : Config) (made : ℕ) (guests : List Guest) (n all : ℕ) (first : RefusedOpening) → n ≤ all → started_below c made guests n ≡ Err first → started_below c made guests all ≡ Err first
short_at_last c made guests n all first le e =
    let total : (all - n) + n ≡ all = omega (arith, le) in
    sym (ap (started_below c made guests) total) ∙ short_later c made guests n (all - n) first e
