-- By which event targets were set.
use Rattle.std.proofs.Common.{zero, suc, ◌≡◌, ℕ, ◌+◌, ◌-◌, ◌<◌, Bool, true, false, List, [], ◌∷◌, take, slice_get, refl, ap, ◌∙◌, subst, arith, cond, Option, Some, None, ◌⊎◌, inl, inr}
use Rattle.std.proofs.lemmas.Option.{none-some}
use Rattle.esx_events.specs.declared.event.Event.{Event}
use Rattle.esx_events.specs.declared.event.Event.TheVariants.{Admit, Start, Read, Write, Ask, Lend, TakeBack, Sample, Rebalance, Scan, SwapOut, Replace, SetShares, SetTax, SetVmTax, Stop, DropPage, Gone}
use Rattle.esx_model.proofs.Callers.{some_same}
use Rattle.esx_story.specs.Moments.{Moment}
use Rattle.esx_story.specs.Counts.{admits}
use Rattle.esx_story.specs.Spans.{is_rebalance, set_from}
use Rattle.esx_story.specs.Paths.{IsLastSet, IsSetLast}
use Rattle.esx_story.proofs.Listed.{one_moment}

admits_not : (n : ℕ) (e : Event) → is_rebalance e ≡ true → admits n e ≡ false
admits_not n Rebalance h = refl
admits_not n (Admit m spec) h = cc
admits_not n (Start m) h = cc
admits_not n (Read m page at len) h = cc
admits_not n (Write m page at new) h = cc
admits_not n (Ask m) h = cc
admits_not n (Lend m page) h = cc
admits_not n (TakeBack m page) h = cc
admits_not n (Sample m len words) h = cc
admits_not n (Scan m page) h = cc
admits_not n (SwapOut m word) h = cc
admits_not n (Replace m page word) h = cc
admits_not n (SetShares m shares) h = cc
admits_not n (SetTax tau) h = cc
admits_not n (SetVmTax m tau) h = cc
admits_not n (Stop m) h = cc
admits_not n (DropPage m page) h = cc
admits_not n (Gone m) h = cc

-- neither an admission of machine n nor a rebalance
abbrev IsQuiet : ℕ → Moment → Type 0
IsQuiet n y = (admits n y.event ≡ false) × (is_rebalance y.event ≡ false)

abbrev AreQuiet : ℕ → List Moment → Type 0
AreQuiet n ms = (j : ℕ) (y : Moment) → slice_get ms j ≡ Some y → IsQuiet n y

-- the d-th, counted from 0, is the last rebalance, and no admission came since
record Sets (n : ℕ) (ms : List Moment) (d : ℕ) : Type 0 where
  moment : Moment
  at : slice_get ms d ≡ Some moment
  is : is_rebalance moment.event ≡ true
  never : (j : ℕ) (y : Moment) → d < j → slice_get ms j ≡ Some y → IsQuiet n y

abbrev Found : ℕ → ℕ → Option ℕ → List Moment → ℕ → Type 0
Found n i last ms k = ((last ≡ Some k) × AreQuiet n ms) ⊎ ((d : ℕ) × (k ≡ i + d) × Sets n ms d)

quiet_more : (n : ℕ) (x : Moment) (ms : List Moment) → IsQuiet n x → AreQuiet n ms → AreQuiet n (x ∷ ms)
quiet_more n x ms quiet rest zero y at = subst (IsQuiet n) (one_moment x y at) quiet
quiet_more n x ms quiet rest (suc j) y at = rest j y at

sets_now : (n : ℕ) (x : Moment) (ms : List Moment) → is_rebalance x.event ≡ true → AreQuiet n ms → Sets n (x ∷ ms) 0
sets_now n x ms is quiet = record { moment = x; at = refl; is = is; never = never }
  where
    never : (j : ℕ) (y : Moment) → 0 < j → slice_get (x ∷ ms) j ≡ Some y → IsQuiet n y
    never zero y less at = absurd (omega (arith, less))
    never (suc j) y less at = quiet j y at

sets_later : (n : ℕ) (x : Moment) (ms : List Moment) (d : ℕ) → Sets n ms d → Sets n (x ∷ ms) (suc d)
sets_later n x ms d s = record { moment = s.moment; at = s.at; is = s.is; never = never }
  where
    never : (j : ℕ) (y : Moment) → suc d < j → slice_get (x ∷ ms) j ≡ Some y → IsQuiet n y
    never zero y less at = absurd (omega (arith, less))
    never (suc j) y less at = s.never j y (omega (arith, less)) at

found_by : (n i : ℕ) (last : Option ℕ) (x : Moment) (ms : List Moment) (k : ℕ) (a b : Bool) → admits n x.event ≡ a → is_rebalance x.event ≡ b → Found n (i + 1) (cond a None (cond b (Some i) last)) ms k → Found n i last (x ∷ ms) k
found_by n i last x ms k true b admit is (inl f) = absurd (none-some k f.0)
found_by n i last x ms k false true admit is (inl f) = (let same = some_same i k f.0 in inr (0, omega (arith, same), sets_now n x ms is f.1))
found_by n i last x ms k false false admit is (inl f) = inl (f.0, quiet_more n x ms (admit, is) f.1)
found_by n i last x ms k a b admit is (inr f) = (let number = f.1 in inr (suc f.0, omega (arith, number), sets_later n x ms f.0 f.2))

found : (n i : ℕ) (last : Option ℕ) (ms : List Moment) (k : ℕ) → set_from n i last ms ≡ Some k → Found n i last ms k
found n i last [] k h = inl (h, λ j y at. absurd (none-some y at))
found n i last (x ∷ ms) k h = found_by n i last x ms k (admits n x.event) (is_rebalance x.event) refl refl (found n (i + 1) (cond (admits n x.event) None (cond (is_rebalance x.event) (Some i) last)) ms k h)

quiet_keeps : (n i : ℕ) (last : Option ℕ) (ms : List Moment) → AreQuiet n ms → set_from n i last ms ≡ last
quiet_keeps n i last [] quiet = refl
quiet_keeps n i last (x ∷ ms) quiet =
    let own = quiet 0 x refl in
    ap (λ a. set_from n (i + 1) (cond a None (cond (is_rebalance x.event) (Some i) last)) ms) own.0 ∙ ap (λ b. set_from n (i + 1) (cond b (Some i) last) ms) own.1
    ∙ quiet_keeps n (i + 1) last ms (λ j y at. quiet (suc j) y at)

set_is : (n i : ℕ) (last : Option ℕ) (ms : List Moment) (d : ℕ) → Sets n ms d → set_from n i last ms ≡ Some (i + d)
set_is n i last [] d s = absurd (none-some s.moment s.at)
set_is n i last (x ∷ ms) zero s =
    let is : is_rebalance x.event ≡ true = ap (λ (y : Moment). is_rebalance y.event) (one_moment x s.moment s.at) ∙ s.is in
    ap (λ a. set_from n (i + 1) (cond a None (cond (is_rebalance x.event) (Some i) last)) ms) (admits_not n x.event is) ∙ ap (λ b. set_from n (i + 1) (cond b (Some i) last) ms) is
    ∙ quiet_keeps n (i + 1) (Some i) ms (λ j y at. s.never (suc j) y (omega arith) at) ∙ ap (λ k. Some k) (let e : i ≡ i + 0 = omega arith in e)
set_is n i last (x ∷ ms) (suc d) s =
    set_is n (i + 1) (cond (admits n x.event) None (cond (is_rebalance x.event) (Some i) last)) ms d (record { moment = s.moment; at = s.at; is = s.is; never = λ j y less at. s.never (suc j) y (omega (arith, less)) at })
    ∙ ap (λ k. Some k) (let e : i + 1 + d ≡ i + suc d = omega arith in e)

-- Places in the front of a list.
take_get : (ms : List Moment) (m j : ℕ) (y : Moment) → slice_get (take m ms) j ≡ Some y → (j < m) × (slice_get ms j ≡ Some y)
take_get ms zero j y h = absurd (none-some y h)
take_get [] (suc m) j y h = absurd (none-some y h)
take_get (x ∷ ms) (suc m) zero y h = (omega arith, h)
take_get (x ∷ ms) (suc m) (suc j) y h = (let rest = take_get ms m j y h in let less = rest.0 in (omega (arith, less), rest.1))

get_take : (ms : List Moment) (m j : ℕ) (y : Moment) → j < m → slice_get ms j ≡ Some y → slice_get (take m ms) j ≡ Some y
get_take ms zero j y less h = absurd (omega (arith, less))
get_take [] (suc m) j y less h = absurd (none-some y h)
get_take (x ∷ ms) (suc m) zero y less h = h
get_take (x ∷ ms) (suc m) (suc j) y less h = get_take ms m j y (omega (arith, less)) h

last_set : (ms : List Moment) (i n k : ℕ) → Found n 1 None (take (i - 1) ms) k → IsLastSet ms i n k
last_set ms i n k (inl f) = absurd (none-some k f.0)
last_set ms i n k (inr f) =
    let d = f.0 in
    let number = f.1 in
    let s = f.2 in
    let own = take_get ms (i - 1) d s.moment s.at in
    let less = own.0 in
    record {
      before = omega (arith, number, less);
      moment = s.moment;
      at = (d, omega (arith, number), own.1);
      is = s.is;
      never = λ j y low high at. (let place = at.0 in let is = at.1 in s.never place y (omega (arith, low, is, number)) (get_take ms (i - 1) place y (omega (arith, high, is)) at.2));
    }

pub set_last : IsSetLast
set_last ms i n k = (
  λ h. last_set ms i n k (found n 1 None (take (i - 1) ms) k h),
  λ s. (let place = s.at.0 in let is = s.at.1 in let before = s.before in
      set_is n 1 None (take (i - 1) ms) place (record {
        moment = s.moment;
        at = get_take ms (i - 1) place s.moment (omega (arith, is, before)) s.at.2;
        is = s.is;
        never = λ j y less at. (let own = take_get ms (i - 1) j y at in let low = own.0 in s.never (j + 1) y (omega (arith, less, is)) (omega (arith, low)) (j, refl, own.1));
      }) ∙ ap (λ x. Some x) (let e : 1 + place ≡ k = omega (arith, is) in e)),
)
