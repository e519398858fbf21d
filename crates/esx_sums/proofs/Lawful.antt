-- Laws of sums.
use Rattle.std.proofs.Common.{◌≡◌, ℕ, zero, suc, ◌+◌, ◌<◌, ◌≤◌, ◌==◌, nat_lt, Bool, true, false, cond, List, [], ◌∷◌, ◌++◌, length, slice_get, append_assoc, refl, sym, ap, ◌∙◌, subst, arith, Option, Some, None, option_map, Ok, inl, inr}
use Rattle.std.proofs.lemmas.Bool.{cases_eq, cases_lt}
use Rattle.std.proofs.lemmas.Bool.Decides.{nat_tests}
use Rattle.std.proofs.lemmas.List.{length-append, append-nil}
use Rattle.std.proofs.lemmas.List.Sums.{sum_by-cons}
use Rattle.std.proofs.lemmas.Option.{slice_get_within}
use Rattle.esx_types.specs.declared.config.Config.{Config}
use Rattle.esx_types.specs.declared.level.Level.{Level}
use Rattle.esx_types.specs.declared.level.Level.TheVariants.{High, Soft, Hard, Low}
use Rattle.esx_events.specs.declared.event.Event.{Event}
use Rattle.esx_model.specs.declared.scene.Vm.{Vm}
use Rattle.esx_model.specs.declared.scene.Scene.{Scene}
use Rattle.esx_model.specs.Replay.{next, run_from}
use Rattle.esx_model.proofs.Callers.{run_one, eqb_same, eqb_other}
use Rattle.esx_story.specs.declared.change.Counts.{Counts}
use Rattle.esx_story.specs.Changes.{resident_in}
use Rattle.esx_story.specs.Moments.{Moment, moments_from}
use Rattle.esx_story.specs.Losses.{lost_at}
use Rattle.esx_story.specs.Gains.{gained_at}
use Rattle.esx_story.specs.Counts.{no_counts, counted, admits, life_from, counts_after, counts_from, counts}
use Rattle.esx_story.proofs.Listed.{moments_one}
use Rattle.esx_sums.specs.declared.site.Extreme.{Extreme}
use Rattle.esx_sums.specs.Extremes.{lower, higher, least_from, most_from, IsFirstLeast, IsFirstMost}
use Rattle.esx_sums.specs.Laws.{AreAllEvents, IsLeastFirst, IsMostFirst}
use Rattle.esx_sums.specs.Lives.{kept_if, lived_from, lived, lives, end_from}
use Rattle.esx_sums.specs.Site.{is_level}
use Rattle.esx_sums.specs.Sums.{present_of, here_of}
use Rattle.esx_sums.proofs.Along.{lives_rise}

-- The counts of the last life are those since the last admission.

kept_all : (n k : ℕ) (m : Moment) (ms : List Moment) (b : Bool) → (life_from n ms k ≡ k → lived_from n k k ms ≡ ms) → life_from n ms (cond b (k + 1) k) ≡ k → kept_if (cond b (k + 1) k == k) m (lived_from n k (cond b (k + 1) k) ms) ≡ m ∷ ms
kept_all n k m ms true rest h = (let rise = lives_rise n ms (k + 1) in absurd (omega (arith, h, rise)))
kept_all n k m ms false rest h = ap (λ b. kept_if b m (lived_from n k k ms)) (eqb_same k) ∙ ap (λ ys. m ∷ ys) (rest h)

all_kept : (n k : ℕ) (ms : List Moment) → life_from n ms k ≡ k → lived_from n k k ms ≡ ms
all_kept n k [] h = refl
all_kept n k (m ∷ ms) h = kept_all n k m ms (admits n m.event) (all_kept n k ms) h

anew : (n : ℕ) (m : Moment) (k : Counts) → admits n m.event ≡ true → counts_after n m k ≡ no_counts
anew n m k h = ap (λ b. cond b no_counts (counted n (lost_at m) (counted n (gained_at m) k))) h

-- whatever was counted before
last_by : (n l k : ℕ) (m : Moment) (ms : List Moment) (i j : Counts) (b : Bool) → admits n m.event ≡ b
    → ((k : ℕ) (i j : Counts) → life_from n ms k ≡ l → k < l → counts_from n (lived_from n l k ms) i ≡ counts_from n ms j)
    → life_from n ms (cond b (k + 1) k) ≡ l → k < l
    → counts_from n (kept_if (cond b (k + 1) k == l) m (lived_from n l (cond b (k + 1) k) ms)) i ≡ counts_from n ms (counts_after n m j)
last_by n l k m ms i j false e rest is less =
    ap (λ b. counts_from n (kept_if b m (lived_from n l k ms)) i) (eqb_other k l (λ h. omega (arith, h, less))) ∙ rest k i (counts_after n m j) is less
last_by n l k m ms i j true e rest is less = elim (cases_eq (k + 1) l) [
  | inl h ↦ (let own : lived_from n l (k + 1) ms ≡ ms = ap (λ z. lived_from n z (k + 1) ms) (sym h) ∙ all_kept n (k + 1) ms (is ∙ sym h) in
      ap (λ b. counts_from n (kept_if b m (lived_from n l (k + 1) ms)) i) (ap (λ z. k + 1 == z) (sym h) ∙ eqb_same (k + 1))
      ∙ ap (λ ys. counts_from n ys (counts_after n m i)) own
      ∙ ap (counts_from n ms) (anew n m i e ∙ sym (anew n m j e)))
  | inr other ↦ (let rise = lives_rise n ms (k + 1) in
      ap (λ b. counts_from n (kept_if b m (lived_from n l (k + 1) ms)) i) (eqb_other (k + 1) l (λ h. other (sym h)))
      ∙ rest (k + 1) i (counts_after n m j) is (omega (arith, rise, is, other)))
]

last_counts : (n l k : ℕ) (ms : List Moment) (i j : Counts) → life_from n ms k ≡ l → k < l → counts_from n (lived_from n l k ms) i ≡ counts_from n ms j
last_counts n l k [] i j is less = absurd (omega (arith, is, less))
last_counts n l k (m ∷ ms) i j is less = last_by n l k m ms i j (admits n m.event) refl (λ a b d h less. last_counts n l a ms b d h less) is less

pub counts_last : (n : ℕ) (ms : List Moment) → counts n (lived n (lives n ms) ms) ≡ counts n ms
counts_last n ms = elim (cases_eq 0 (lives n ms)) [
  | inl h ↦ ap (λ (zs : List Moment). counts n zs) (ap (λ l. lived_from n l 0 ms) (sym h) ∙ all_kept n 0 ms (sym h))
  | inr other ↦ last_counts n (lives n ms) 0 ms no_counts no_counts refl (omega (arith, other))
]

-- the path leads where its moments do
pub end_told : (c : Config) (i : ℕ) (es : List Event) (s t : Scene) → run_from c i es s ≡ Ok t → end_from s (moments_from c es s) ≡ t
unfolding run_from moments_from
end_told c i [] s t h = cc
end_told c i (x ∷ es) s t h =
    let one = run_one i (next c s x) (λ y. run_from c (i + 1) es y) t h in
    ap (end_from s) (moments_one c x es s one.0 one.1) ∙ end_told c (i + 1) es one.0.1 t one.2

pub here_told : (o : Option Vm) → here_of (option_map present_of o) ≡ resident_in o
here_told None = refl
here_told (Some v) = refl

-- Levels.

abbrev at_level : Level → Moment → ℕ
at_level level x = cond (is_level level x.after.level) 1 0

one_level : (level : Level) → cond (is_level High level) 1 0 + cond (is_level Soft level) 1 0 + cond (is_level Hard level) 1 0 + cond (is_level Low level) 1 0 ≡ 1
one_level High = refl
one_level Soft = refl
one_level Hard = refl
one_level Low = refl

pub all_events_told : AreAllEvents
all_events_told [] = refl
all_events_told (x ∷ ms) =
    let a = sum_by-cons (at_level High) x ms in
    let b = sum_by-cons (at_level Soft) x ms in
    let c = sum_by-cons (at_level Hard) x ms in
    let d = sum_by-cons (at_level Low) x ms in
    let one = one_level x.after.level in
    let rest = all_events_told ms in
    omega (arith, a, b, c, d, one, rest)

-- Extremes.

none_is : {X : Type 0} (x : X) → None ≡ Some x → ⊥
none_is x h = cc

some_is : {X : Type 0} (x y : X) → Some x ≡ Some y → x ≡ y
some_is x y h = cc

-- a list with one more
get_front : (xs : List ℕ) (y k : ℕ) → k < length xs → slice_get (xs ++ y ∷ []) k ≡ slice_get xs k
get_front [] y k below = absurd (omega (arith, below))
get_front (x ∷ xs) y zero below = refl
get_front (x ∷ xs) y (suc k) below = get_front xs y k (omega (arith, below))

get_last : (xs : List ℕ) (y : ℕ) → slice_get (xs ++ y ∷ []) (length xs) ≡ Some y
get_last [] y = refl
get_last (x ∷ xs) y = get_last xs y

get_past : (xs : List ℕ) (y z k : ℕ) → slice_get (xs ++ y ∷ []) k ≡ Some z → length xs ≤ k → z ≡ y
get_past [] y z zero h past = sym (some_is y z h)
get_past [] y z (suc k) h past = absurd (none_is z h)
get_past (x ∷ xs) y z zero h past = absurd (omega (arith, past))
get_past (x ∷ xs) y z (suc k) h past = get_past xs y z k h (omega (arith, past))

less_so : (a b : ℕ) → nat_lt a b ≡ true → a < b
less_so a b h = grind (arith, nat_tests)

not_less_so : (a b : ℕ) → nat_lt a b ≡ false → b ≤ a
not_less_so a b h = grind (arith, nat_tests)

least_step : (ws : List ℕ) (v : ℕ) (best : Extreme) → IsFirstLeast ws best → IsFirstLeast (ws ++ v ∷ []) (lower best (length ws) v)
least_step ws v best is = by (nat_lt v best.number) refl
  where
    low : (k u : ℕ) → slice_get (ws ++ v ∷ []) k ≡ Some u → v < best.number → v ≤ u
    low k u h less = elim (cases_lt k (length ws)) [
      | inl below ↦ (let old = is.least k u (sym (get_front ws v k below) ∙ h) in omega (arith, old, less))
      | inr past ↦ (let same = get_past ws v u k h past in omega (arith, same))
    ]

    old_low : (k u : ℕ) → slice_get (ws ++ v ∷ []) k ≡ Some u → best.number ≤ v → best.number ≤ u
    old_low k u h more = elim (cases_lt k (length ws)) [
      | inl below ↦ is.least k u (sym (get_front ws v k below) ∙ h)
      | inr past ↦ (let same = get_past ws v u k h past in omega (arith, same, more))
    ]

    within : best.event < length ws
    within = slice_get_within ws best.event best.number is.there

    by : (b : Bool) → nat_lt v best.number ≡ b → IsFirstLeast (ws ++ v ∷ []) (cond b (record { number = v; event = length ws }) best)
    by true e =
        let less = less_so v best.number e in
        record {
          there = get_last ws v;
          least = λ k u h. low k u h less;
          first = λ k u h below. (let old = is.least k u (sym (get_front ws v k below) ∙ h) in omega (arith, old, less));
        }
    by false e =
        let more = not_less_so v best.number e in
        record {
          there = get_front ws v best.event within ∙ is.there;
          least = λ k u h. old_low k u h more;
          first = λ k u h below. is.first k u (sym (get_front ws v k (omega (arith, below, within))) ∙ h) below;
        }

least_all : (ws vs : List ℕ) (best : Extreme) → IsFirstLeast ws best → IsFirstLeast (ws ++ vs) (least_from best (length ws) vs)
least_all ws [] best is = (let P : List ℕ → Type 0 = λ xs. IsFirstLeast xs best in subst P (sym (append-nil ws)) is)
least_all ws (v ∷ vs) best is =
    let rest = least_all (ws ++ v ∷ []) vs (lower best (length ws) v) (least_step ws v best is) in
    let P : List ℕ → Type 0 = λ xs. IsFirstLeast xs (least_from (lower best (length ws) v) (length (ws ++ v ∷ [])) vs) in
    let Q : ℕ → Type 0 = λ k. IsFirstLeast (ws ++ v ∷ vs) (least_from (lower best (length ws) v) k vs) in
    subst Q (length-append ws (v ∷ [])) (subst P (append_assoc ws (v ∷ []) vs) rest)

one_there : (v k u : ℕ) → slice_get (v ∷ []) k ≡ Some u → (u ≡ v) × (k ≡ 0)
one_there v zero u h = (sym (some_is v u h), refl)
one_there v (suc k) u h = absurd (none_is u h)

pub least_first : IsLeastFirst
least_first v vs =
    least_all (v ∷ []) vs (record { number = v; event = 0 }) (record {
      there = refl;
      least = λ k u h. (let same = (one_there v k u h).0 in omega (arith, same));
      first = λ k u h below. absurd (omega (arith, below));
    })

most_step : (ws : List ℕ) (v : ℕ) (best : Extreme) → IsFirstMost ws best → IsFirstMost (ws ++ v ∷ []) (higher best (length ws) v)
most_step ws v best is = by (nat_lt best.number v) refl
  where
    high : (k u : ℕ) → slice_get (ws ++ v ∷ []) k ≡ Some u → best.number < v → u ≤ v
    high k u h more = elim (cases_lt k (length ws)) [
      | inl below ↦ (let old = is.most k u (sym (get_front ws v k below) ∙ h) in omega (arith, old, more))
      | inr past ↦ (let same = get_past ws v u k h past in omega (arith, same))
    ]

    old_high : (k u : ℕ) → slice_get (ws ++ v ∷ []) k ≡ Some u → v ≤ best.number → u ≤ best.number
    old_high k u h less = elim (cases_lt k (length ws)) [
      | inl below ↦ is.most k u (sym (get_front ws v k below) ∙ h)
      | inr past ↦ (let same = get_past ws v u k h past in omega (arith, same, less))
    ]

    within : best.event < length ws
    within = slice_get_within ws best.event best.number is.there

    by : (b : Bool) → nat_lt best.number v ≡ b → IsFirstMost (ws ++ v ∷ []) (cond b (record { number = v; event = length ws }) best)
    by true e =
        let more = less_so best.number v e in
        record {
          there = get_last ws v;
          most = λ k u h. high k u h more;
          first = λ k u h below. (let old = is.most k u (sym (get_front ws v k below) ∙ h) in omega (arith, old, more));
        }
    by false e =
        let less = not_less_so best.number v e in
        record {
          there = get_front ws v best.event within ∙ is.there;
          most = λ k u h. old_high k u h less;
          first = λ k u h below. is.first k u (sym (get_front ws v k (omega (arith, below, within))) ∙ h) below;
        }

most_all : (ws vs : List ℕ) (best : Extreme) → IsFirstMost ws best → IsFirstMost (ws ++ vs) (most_from best (length ws) vs)
most_all ws [] best is = (let P : List ℕ → Type 0 = λ xs. IsFirstMost xs best in subst P (sym (append-nil ws)) is)
most_all ws (v ∷ vs) best is =
    let rest = most_all (ws ++ v ∷ []) vs (higher best (length ws) v) (most_step ws v best is) in
    let P : List ℕ → Type 0 = λ xs. IsFirstMost xs (most_from (higher best (length ws) v) (length (ws ++ v ∷ [])) vs) in
    let Q : ℕ → Type 0 = λ k. IsFirstMost (ws ++ v ∷ vs) (most_from (higher best (length ws) v) k vs) in
    subst Q (length-append ws (v ∷ [])) (subst P (append_assoc ws (v ∷ []) vs) rest)

pub most_first : IsMostFirst
most_first v vs =
    most_all (v ∷ []) vs (record { number = v; event = 0 }) (record {
      there = refl;
      most = λ k u h. (let same = (one_there v k u h).0 in omega (arith, same));
      first = λ k u h below. absurd (omega (arith, below));
    })
