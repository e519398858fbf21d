-- Sums after one more event of their path: lives.
use Rattle.std.proofs.Common.{zero, suc, ◌≡◌, ◌≢◌, ℕ, ◌+◌, ◌-◌, ◌<◌, ◌≤◌, ◌==◌, nat_lt, Bool, true, false, cond, List, [], ◌∷◌, ◌++◌, length, map, get_or, replicate, refl, sym, ap, ◌∙◌, subst, arith, Option, None, option_map, inl, inr}
use Rattle.std.specs.List.{AllByRecursion, filter, range_with_len}
use Rattle.std.proofs.lemmas.Bool.{cases_eq}
use Rattle.std.proofs.lemmas.Bool.Decides.{nat_tests}
use Rattle.std.proofs.lemmas.List.{append-nil}
use Rattle.std.proofs.lemmas.List.Elements.{filter-append}
use Rattle.std.proofs.lemmas.List.FromFn.{map-range_with_len_more}
use Rattle.esx_types.specs.declared.config.TheConstants.{VM_NUMBERS}
use Rattle.esx_types.specs.declared.config.Config.{Config}
use Rattle.esx_events.specs.declared.call.Sum.{Sum}
use Rattle.esx_events.specs.declared.event.Event.{Event}
use Rattle.esx_events.specs.declared.event.Event.TheVariants.{Admit}
use Rattle.esx_events.specs.declared.event.Answer.{Answer}
use Rattle.esx_model.specs.declared.scene.Vm.{Vm}
use Rattle.esx_model.specs.declared.scene.Site.{Site}
use Rattle.esx_model.proofs.Callers.{eqb_same, eqb_other}
use Rattle.esx_story.specs.Moments.{Moment}
use Rattle.esx_story.specs.Counts.{no_counts, admits, counts}
use Rattle.esx_sums.specs.declared.present.Present.{Present}
use Rattle.esx_sums.specs.declared.sums.Changes.{Changes}
use Rattle.esx_sums.specs.declared.tally.Tally.{Tally}
use Rattle.esx_sums.specs.declared.tally.Over.{Over}
use Rattle.esx_sums.specs.Lives.{lived, lives}
use Rattle.esx_story.specs.Waits.{Met}
use Rattle.esx_sums.specs.Mets.{is_held, is_short, met_in}
use Rattle.esx_sums.specs.Guests.{tally_of, tally}
use Rattle.esx_sums.specs.Sums.{Sums, blank, tally_in, present_of, all_present, ended, ended_in, tallied}
use Rattle.esx_sums.specs.Accounts.{AreAll, is_over_of, over, IsSums, IsNext}
use Rattle.esx_sums.proofs.Lists.{same_range}
use Rattle.esx_sums.proofs.Along.{lives_more, before, lived_now, lived_past, met_same, met_now}
use Rattle.esx_sums.proofs.Pushed.{IsFor, after, after_push}
use Rattle.esx_sums.proofs.Reading.{tallied_read}

-- what is told of a machine that stands, at its number
pub present_read : (vms : List (Option Vm)) (n : ℕ) → get_or (map (λ (o : Option Vm). option_map present_of o) vms) n None ≡ option_map present_of (get_or vms n None)
present_read [] n = no_row n
  where
    no_row : (n : ℕ) → get_or {A = Option Present} [] n None ≡ option_map present_of (get_or [] n None)
    no_row zero = refl
    no_row (suc n) = refl
present_read (o ∷ vms) zero = refl
present_read (o ∷ vms) (suc n) = present_read vms n

blank_at : (k n : ℕ) → get_or {A = Option Present} (replicate k None) n None ≡ None
blank_at zero n = refl
blank_at (suc k) zero = refl
blank_at (suc k) (suc n) = blank_at k n

with_blank_at : (present : List (Option Present)) (k n : ℕ) → get_or (present ++ replicate k None) n None ≡ get_or present n None
with_blank_at [] k zero = blank_at k zero
with_blank_at [] k (suc n) = blank_at k (suc n)
with_blank_at (o ∷ present) k zero = refl
with_blank_at (o ∷ present) k (suc n) = with_blank_at present k n

told_at : (present : List (Option Present)) (s : Site) (n : ℕ) → AreAll present s → get_or present n None ≡ get_or (all_present s) n None
told_at present s n all = sym (with_blank_at present (VM_NUMBERS - length present) n) ∙ ap (λ (ps : List (Option Present)). get_or ps n None) all

for_machine : (c : Config) (ms : List Moment) (x : Moment) (e : Event) (answer : Answer) (y : Changes) (sum : Sum) (present : List (Option Present)) (n : ℕ) → IsNext c ms x e answer y sum present
    → IsFor n x e y (get_or present n None)
for_machine c ms x e answer y sum present n is = record {
  made = is.made;
  lost = is.lost;
  gained = is.gained;
  moved = is.moved;
  host = is.host;
  present = told_at present x.after.site n is.stands ∙ present_read x.after.site.vms n;
}

-- The present life.

-- of the life that the event is in, before it
abbrev begun_held : ℕ → List Moment → List Met → Moment → ℕ
begun_held n ms mets x = cond (admits n x.event) 0 (met_in is_held n (lives n ms) ms mets)

abbrev begun_short : ℕ → List Moment → List Met → Moment → ℕ
begun_short n ms mets x = cond (admits n x.event) 0 (met_in is_short n (lives n ms) ms mets)

tally_begun : (n : ℕ) (ms : List Moment) (mets : List Met) (x : Moment)
    → cond (admits n x.event) (blank (lives n ms + 1)) (tally n (lives n ms) ms mets) ≡ tally_of n (lives n (ms ++ x ∷ [])) (before n ms x) (begun_held n ms mets x) (begun_short n ms mets x)
tally_begun n ms mets x = by (admits n x.event) ∙ ap (λ l. tally_of n l (before n ms x) (begun_held n ms mets x) (begun_short n ms mets x)) (sym (lives_more n ms x 0))
  where
    l : ℕ
    l = lives n ms

    by : (b : Bool) → cond b (blank (l + 1)) (tally n l ms mets)
        ≡ tally_of n (cond b (l + 1) l) (cond b [] (lived n l ms)) (cond b 0 (met_in is_held n l ms mets)) (cond b 0 (met_in is_short n l ms mets))
    by true = refl
    by false = refl

tally_then : (n : ℕ) (ms : List Moment) (mets : List Met) (x : Moment) → AllByRecursion (λ (m : Met). m.at ≤ length ms) mets
    → tally n (lives n (ms ++ x ∷ [])) (ms ++ x ∷ []) mets ≡ tally_of n (lives n (ms ++ x ∷ [])) (before n ms x ++ x ∷ []) (begun_held n ms mets x) (begun_short n ms mets x)
tally_then n ms mets x early =
    let later = ms ++ x ∷ [] in
    let l = lives n later in
    ap (λ (zs : List Moment). tally_of n l zs (met_in is_held n l later mets) (met_in is_short n l later mets)) (lived_now n ms x)
    ∙ ap (λ h. tally_of n l (before n ms x ++ x ∷ []) h (met_in is_short n l later mets)) (met_now is_held n ms x mets early)
    ∙ ap (λ s. tally_of n l (before n ms x ++ x ∷ []) (begun_held n ms mets x) s) (met_now is_short n ms x mets early)

pub now_then : (c : Config) (ms : List Moment) (mets : List Met) (x : Moment) (s : Sums) (e : Event) (answer : Answer) (y : Changes) (sum : Sum) (present : List (Option Present)) (n : ℕ)
    → IsSums c ms mets s → IsNext c ms x e answer y sum present → n < VM_NUMBERS → tally_in (tallied s.now e y present) n ≡ tally n (lives n (ms ++ x ∷ [])) (ms ++ x ∷ []) mets
now_then c ms mets x s e answer y sum present n is nexts below =
    let long = is.numbers in
    let l = lives n (ms ++ x ∷ []) in
    let p = get_or present n None in
    let xs = before n ms x in
    let h = begun_held n ms mets x in
    let k = begun_short n ms mets x in
    let anew : admits n x.event ≡ true → counts n xs ≡ no_counts = λ a. ap (λ b. counts n (cond b [] (lived n (lives n ms) ms))) a in
    let begun : cond (admits n e) (blank ((tally_in s.now n).life + 1)) (tally_in s.now n) ≡ tally_of n l xs h k =
    ap (λ (t : Tally). cond (admits n e) (blank (t.life + 1)) t) (is.now n below) ∙ ap (λ (z : Event). cond (admits n z) (blank (lives n ms + 1)) (tally n (lives n ms) ms mets)) (sym nexts.made) ∙ tally_begun n ms mets x in
    tallied_read s.now e y present n (omega (arith, long, below)) ∙ ap (after n e y p) begun
    ∙ sym (after_push n l xs h k x e y p (for_machine c ms x e answer y sum present n nexts) anew) ∙ sym (tally_then n ms mets x is.early)

-- Lives that are over.

tally_past : (n l : ℕ) (ms : List Moment) (mets : List Met) (x : Moment) → AllByRecursion (λ (m : Met). m.at ≤ length ms) mets → l < lives n (ms ++ x ∷ []) → tally n l (ms ++ x ∷ []) mets ≡ tally n l ms mets
tally_past n l ms mets x early past =
    let later = ms ++ x ∷ [] in
    ap (λ (zs : List Moment). tally_of n l zs (met_in is_held n l later mets) (met_in is_short n l later mets)) (lived_past n l ms x past)
    ∙ ap (λ h. tally_of n l (lived n l ms) h (met_in is_short n l later mets)) (met_same is_held n l ms x mets early)
    ∙ ap (λ k. tally_of n l (lived n l ms) (met_in is_held n l ms mets) k) (met_same is_short n l ms x mets early)

overs_past : (n : ℕ) (ms : List Moment) (mets : List Met) (x : Moment) → AllByRecursion (λ (m : Met). m.at ≤ length ms) mets
    → map (over n (ms ++ x ∷ []) mets) (range_with_len 1 (lives n (ms ++ x ∷ []) - 1)) ≡ map (over n ms mets) (range_with_len 1 (lives n (ms ++ x ∷ []) - 1))
overs_past n ms mets x early =
    same_range (over n (ms ++ x ∷ []) mets) (over n ms mets) 1 (lives n (ms ++ x ∷ []) - 1)
    (λ l low high. ap (λ (t : Tally). let o : Over = record { vm = n; tally = t } in o) (tally_past n l ms mets x early (omega (arith, low, high))))

one_kept : (p : Over → Bool) (o : Over) (b : Bool) → p o ≡ b → filter p (o ∷ []) ≡ cond b (o ∷ []) []
one_kept p o b h = ap (λ (t : Bool). cond t (o ∷ []) []) h

some_lives : (k : ℕ) → nat_lt 0 (suc k) ≡ true
some_lives k = grind (arith, nat_tests)

-- with the life that ends
ended_own : (n k : ℕ) (t : Tally) (past : List Over) (g : ℕ → Over) → filter (is_over_of n) past ≡ map g (range_with_len 1 (k - 1)) → t.life ≡ k → g k ≡ record { vm = n; tally = t } → filter (is_over_of n) (ended past n t) ≡ map g (range_with_len 1 k)
ended_own n zero t past g is life last = ap (λ (j : ℕ). filter (is_over_of n) (cond (nat_lt 0 j) (past ++ record { vm = n; tally = t } ∷ []) past)) life ∙ is
ended_own n (suc k) t past g is life last =
    let o : Over = record { vm = n; tally = t } in
    let less : suc k - 1 ≡ k = omega arith in
    let next : 1 + k ≡ suc k = omega arith in
    let more : k + 1 ≡ suc k = omega arith in
    ap (λ (j : ℕ). filter (is_over_of n) (cond (nat_lt 0 j) (past ++ o ∷ []) past)) life ∙ ap (λ (b : Bool). filter (is_over_of n) (cond b (past ++ o ∷ []) past)) (some_lives k)
    ∙ filter-append (is_over_of n) past (o ∷ []) ∙ ap (λ (os : List Over). filter (is_over_of n) past ++ os) (one_kept (is_over_of n) o true (eqb_same n))
    ∙ ap (λ (os : List Over). os ++ o ∷ []) (is ∙ ap (λ (j : ℕ). map g (range_with_len 1 j)) less) ∙ ap (λ (z : Over). map g (range_with_len 1 k) ++ z ∷ []) (sym last)
    ∙ sym (map-range_with_len_more g 1 k (suc k) next) ∙ ap (λ (j : ℕ). map g (range_with_len 1 j)) more

ended_other : (n m : ℕ) (t : Tally) (past : List Over) → n ≢ m → filter (is_over_of n) (ended past m t) ≡ filter (is_over_of n) past
ended_other n m t past other = by (nat_lt 0 t.life)
  where
    o : Over
    o = record { vm = m; tally = t }

    by : (b : Bool) → filter (is_over_of n) (cond b (past ++ o ∷ []) past) ≡ filter (is_over_of n) past
    by true = filter-append (is_over_of n) past (o ∷ []) ∙ ap (λ (os : List Over). filter (is_over_of n) past ++ os) (one_kept (is_over_of n) o false (eqb_other m n other)) ∙ append-nil (filter (is_over_of n) past)
    by false = refl

one_less : (l : ℕ) → l + 1 - 1 ≡ l
one_less l = omega arith

ended_by : (c : Config) (ms : List Moment) (mets : List Met) (s : Sums) (e : Event) (n : ℕ) → IsSums c ms mets s → n < VM_NUMBERS
    → filter (is_over_of n) (ended_in s.past s.now e) ≡ map (over n ms mets) (range_with_len 1 (cond (admits n e) (lives n ms + 1) (lives n ms) - 1))
ended_by c ms mets s (Admit m spec) n is below = elim (cases_eq n m) [
  | inl e ↦ (let P : ℕ → Type 0 = λ k. filter (is_over_of n) (ended s.past k (tally_in s.now k)) ≡ map g (range_with_len 1 (cond (k == n) (lives n ms + 1) (lives n ms) - 1)) in subst P e own)
  | inr other ↦ ended_other n m (tally_in s.now m) s.past other ∙ is.past n below ∙ ap (λ b. map g (range_with_len 1 (cond b (lives n ms + 1) (lives n ms) - 1))) (sym (eqb_other m n other))
]
  where
    g : ℕ → Over
    g = over n ms mets

    own : filter (is_over_of n) (ended s.past n (tally_in s.now n)) ≡ map g (range_with_len 1 (cond (n == n) (lives n ms + 1) (lives n ms) - 1))
    own =
        ended_own n (lives n ms) (tally_in s.now n) s.past g (is.past n below) (ap (λ (t : Tally). t.life) (is.now n below)) (ap (λ (t : Tally). let o : Over = record { vm = n; tally = t } in o) (sym (is.now n below)))
        ∙ ap (λ (j : ℕ). map g (range_with_len 1 j)) (sym (one_less (lives n ms))) ∙ ap (λ b. map g (range_with_len 1 (cond b (lives n ms + 1) (lives n ms) - 1))) (sym (eqb_same n))
ended_by c ms mets s _ n is below = is.past n below

pub past_then : (c : Config) (ms : List Moment) (mets : List Met) (x : Moment) (s : Sums) (n : ℕ) → IsSums c ms mets s → n < VM_NUMBERS
    → filter (is_over_of n) (ended_in s.past s.now x.event) ≡ map (over n (ms ++ x ∷ []) mets) (range_with_len 1 (lives n (ms ++ x ∷ []) - 1))
past_then c ms mets x s n is below =
    ended_by c ms mets s x.event n is below ∙ ap (λ l. map (over n ms mets) (range_with_len 1 (l - 1))) (sym (lives_more n ms x 0)) ∙ sym (overs_past n ms mets x is.early)
