-- Sums after an event that was refused.
use Rattle.std.proofs.Common.{◌≡◌, ℕ, ◌+◌, ◌-◌, ◌<◌, ◌≤◌, ◌==◌, ◌&&◌, Bool, true, false, cond, List, [], ◌∷◌, ◌++◌, length, map, take, get_or, set, refl, sym, ap, ◌∙◌, subst, arith, Option, Some, None, inl, inr}
use Rattle.std.specs.List.{range_with_len}
use Rattle.std.proofs.lemmas.Bool.{cases_lt}
use Rattle.std.proofs.lemmas.Bool.Decides.{nat_tests}
use Rattle.std.proofs.lemmas.List.{take_all, length-set, get_or_past}
use Rattle.std.proofs.lemmas.List.Sums.{count_by-le-length}
use Rattle.esx_types.specs.declared.config.TheConstants.{VM_NUMBERS}
use Rattle.esx_types.specs.declared.config.Config.{Config}
use Rattle.esx_events.specs.declared.event.Refusal.{Refusal}
use Rattle.esx_events.specs.Numbers.{refusal_number}
use Rattle.esx_model.proofs.Callers.{eqb_same, eqb_other, all_append}
use Rattle.esx_story.specs.Moments.{Moment}
use Rattle.esx_sums.specs.declared.tally.Accesses.{Accesses}
use Rattle.esx_sums.specs.declared.tally.Tally.{Tally}
use Rattle.esx_sums.specs.declared.tally.Over.{Over}
use Rattle.esx_sums.specs.Lives.{lived, lives}
use Rattle.esx_story.specs.Waits.{Met}
use Rattle.esx_sums.specs.Mets.{is_held, is_short, is_access_of, is_met_in, met_in, refused_with}
use Rattle.esx_sums.specs.Guests.{tally_of, tally}
use Rattle.esx_sums.specs.Sums.{Sums, REFUSALS, one_if, blank, tally_in, refused_access, refused_in, refused}
use Rattle.esx_sums.specs.Few.{AreFewWaits, AreFewHits, AreSmallSums}
use Rattle.esx_sums.specs.Accounts.{over, IsSums, IsPatient}
use Rattle.esx_sums.proofs.Lists.{count_push, same_range, set_read}
use Rattle.esx_sums.proofs.Reading.{at_read, put_accesses}

-- Accesses.

-- a refused access counts for its machine
abbrev waited : ℕ → Option (ℕ × ℕ) → Refusal → Accesses → Accesses
waited n None r a = a
waited n (Some p) r a = cond (p.0 == n) (refused_access a r) a

read_refused : (now : List Tally) (access : Option (ℕ × ℕ)) (r : Refusal) (n : ℕ) → n < length now → tally_in (refused_in now access r) n ≡ record (tally_in now n) { accesses = waited n access r (tally_in now n).accesses }
read_refused now None r n below = refl
read_refused now (Some p) r n below =
    at_read (λ (t : Tally). record t { accesses = refused_access t.accesses r }) now p.0 n below ∙ put_accesses (p.0 == n) (tally_in now n) (refused_access (tally_in now n).accesses r)

refused_long : (now : List Tally) (access : Option (ℕ × ℕ)) (r : Refusal) → length (refused_in now access r) ≡ length now
refused_long now None r = refl
refused_long now (Some p) r = length-set now p.0 _

with_true : (a : Bool) → (a && true) ≡ a
with_true true = refl
with_true false = refl

with_false : (a : Bool) → (a && false) ≡ false
with_false true = refl
with_false false = refl

-- met at the end of the path
met_last : (why : Refusal → Bool) (n l : ℕ) (ms : List Moment) (m : Met) → m.at ≡ length ms → is_met_in why n l ms m ≡ (is_access_of n m.access && why m.refusal) && (lives n ms == l)
met_last why n l ms m at = ap (λ (zs : List Moment). (is_access_of n m.access && why m.refusal) && (lives n zs == l)) (ap (λ k. take k ms) at ∙ take_all (length ms) ms (omega arith))

met_more : (why : Refusal → Bool) (n : ℕ) (ms : List Moment) (mets : List Met) (m : Met) → m.at ≡ length ms
    → met_in why n (lives n ms) ms (mets ++ m ∷ []) ≡ met_in why n (lives n ms) ms mets + one_if (is_access_of n m.access && why m.refusal)
met_more why n ms mets m at =
    count_push (is_met_in why n (lives n ms) ms) mets m
    ∙ ap (λ (b : Bool). met_in why n (lives n ms) ms mets + cond b 1 0) (met_last why n (lives n ms) ms m at ∙ ap (λ (b : Bool). (is_access_of n m.access && why m.refusal) && b) (eqb_same (lives n ms)) ∙ with_true (is_access_of n m.access && why m.refusal))

met_other : (why : Refusal → Bool) (n l : ℕ) (ms : List Moment) (mets : List Met) (m : Met) → m.at ≡ length ms → l < lives n ms → met_in why n l ms (mets ++ m ∷ []) ≡ met_in why n l ms mets
met_other why n l ms mets m at past =
    count_push (is_met_in why n l ms) mets m
    ∙ ap (λ (b : Bool). met_in why n l ms mets + cond b 1 0) (met_last why n l ms m at ∙ ap (λ (b : Bool). (is_access_of n m.access && why m.refusal) && b) (eqb_other (lives n ms) l (λ e. omega (arith, e, past)))
    ∙ with_false (is_access_of n m.access && why m.refusal))
    ∙ (let none : met_in why n l ms mets + 0 ≡ met_in why n l ms mets = omega arith in none)

abbrev acc : ℕ → ℕ → ℕ → ℕ → Accesses
acc r w h s = record { reads = r; writes = w; held = h; short = s }

-- as it counts for a machine
waits_as : (n : ℕ) (access : Option (ℕ × ℕ)) (r : Refusal) (a : Accesses)
    → acc a.reads a.writes (a.held + one_if (is_access_of n access && is_held r)) (a.short + one_if (is_access_of n access && is_short r)) ≡ waited n access r a
waits_as n None r a = ap (λ k. acc a.reads a.writes k (a.short + 0)) (let e : a.held + 0 ≡ a.held = omega arith in e) ∙ ap (λ k. acc a.reads a.writes a.held k) (let e : a.short + 0 ≡ a.short = omega arith in e)
waits_as n (Some p) r a = by (p.0 == n)
  where
    by : (b : Bool) → acc a.reads a.writes (a.held + one_if (b && is_held r)) (a.short + one_if (b && is_short r)) ≡ cond b (refused_access a r) a
    by true = refl
    by false = ap (λ k. acc a.reads a.writes k (a.short + 0)) (let e : a.held + 0 ≡ a.held = omega arith in e) ∙ ap (λ k. acc a.reads a.writes a.held k) (let e : a.short + 0 ≡ a.short = omega arith in e)

tally_more : (n : ℕ) (ms : List Moment) (mets : List Met) (m : Met) → m.at ≡ length ms
    → record (tally n (lives n ms) ms mets) { accesses = waited n m.access m.refusal (tally n (lives n ms) ms mets).accesses } ≡ tally n (lives n ms) ms (mets ++ m ∷ [])
tally_more n ms mets m at =
    let l = lives n ms in
    let t = tally n l ms mets in
    let held = met_more is_held n ms mets m at in
    let short = met_more is_short n ms mets m at in
    ap (λ (a : Accesses). record t { accesses = a }) (sym (waits_as n m.access m.refusal t.accesses))
    ∙ ap (λ k. record t { accesses = acc t.accesses.reads t.accesses.writes k (t.accesses.short + one_if (is_access_of n m.access && is_short m.refusal)) }) (sym held)
    ∙ ap (λ k. record t { accesses = acc t.accesses.reads t.accesses.writes (met_in is_held n l ms (mets ++ m ∷ [])) k }) (sym short)

now_so : (c : Config) (ms : List Moment) (mets : List Met) (m : Met) (s : Sums) (n : ℕ) → IsSums c ms mets s → m.at ≡ length ms → n < VM_NUMBERS
    → tally_in (refused_in s.now m.access m.refusal) n ≡ tally n (lives n ms) ms (mets ++ m ∷ [])
now_so c ms mets m s n is at below =
    let long = is.numbers in
    read_refused s.now m.access m.refusal n (omega (arith, long, below))
    ∙ ap (λ (t : Tally). record t { accesses = waited n m.access m.refusal t.accesses }) (is.now n below) ∙ tally_more n ms mets m at

past_same : (n l : ℕ) (ms : List Moment) (mets : List Met) (m : Met) → m.at ≡ length ms → l < lives n ms → tally n l ms mets ≡ tally n l ms (mets ++ m ∷ [])
past_same n l ms mets m at past =
    ap (λ h. tally_of n l (lived n l ms) h (met_in is_short n l ms mets)) (sym (met_other is_held n l ms mets m at past))
    ∙ ap (λ k. tally_of n l (lived n l ms) (met_in is_held n l ms (mets ++ m ∷ [])) k) (sym (met_other is_short n l ms mets m at past))

overs_same : (n : ℕ) (ms : List Moment) (mets : List Met) (m : Met) → m.at ≡ length ms → map (over n ms mets) (range_with_len 1 (lives n ms - 1)) ≡ map (over n ms (mets ++ m ∷ [])) (range_with_len 1 (lives n ms - 1))
overs_same n ms mets m at =
    same_range (over n ms mets) (over n ms (mets ++ m ∷ [])) 1 (lives n ms - 1)
    (λ l low high. ap (λ (t : Tally). let o : Over = record { vm = n; tally = t } in o) (past_same n l ms mets m at (omega (arith, low, high))))

-- Refusals by number.

number_below : (r : Refusal) → refusal_number r < REFUSALS
number_below r = grind arith

refused_push : (k : ℕ) (mets : List Met) (m : Met) → refused_with k (mets ++ m ∷ []) ≡ refused_with k mets + cond (refusal_number m.refusal == k) 1 0
refused_push k mets m = count_push (λ (z : Met). refusal_number z.refusal == k) mets m

numbers_so : (c : Config) (ms : List Moment) (mets : List Met) (m : Met) (s : Sums) (k : ℕ) → IsSums c ms mets s
    → get_or (set s.refused (refusal_number m.refusal) (get_or s.refused (refusal_number m.refusal) 0 + 1)) k 0 ≡ refused_with k (mets ++ m ∷ [])
numbers_so c ms mets m s k is = elim (cases_lt k REFUSALS) [
  | inl below ↦ (let long = is.kinds in
      set_read s.refused number k (get_or s.refused number 0 + 1) 0 (omega (arith, long, below)) ∙ by (number == k) refl ∙ sym (refused_push k mets m))
  | inr past ↦ (let long = is.kinds in
      let set_long = length-set s.refused number (get_or s.refused number 0 + 1) in
      let low = number_below m.refusal in
      let none : get_or s.refused k 0 ≡ 0 = get_or_past s.refused k 0 (omega (arith, long, past)) in
      let was : get_or s.refused k 0 ≡ refused_with k mets = is.refused k in
      let more = refused_push k mets m in
      let other : one_if (number == k) ≡ 0 = ap one_if (eqb_other number k (λ e. omega (arith, e, low, past))) in
      let now : get_or (set s.refused number (get_or s.refused number 0 + 1)) k 0 ≡ 0 = get_or_past (set s.refused number (get_or s.refused number 0 + 1)) k 0 (omega (arith, long, past, set_long)) in
      omega (arith, none, was, more, other, now))
]
  where
    number : ℕ
    number = refusal_number m.refusal

    same : (number == k) ≡ true → number ≡ k
    same h = grind (arith, nat_tests)

    by : (b : Bool) → (number == k) ≡ b → cond b (get_or s.refused number 0 + 1) (get_or s.refused k 0) ≡ refused_with k mets + cond b 1 0
    by true e = (let was : get_or s.refused number 0 ≡ refused_with k mets = ap (λ (j : ℕ). get_or s.refused j 0) (same e) ∙ is.refused k in omega (arith, was))
    by false e = (let was : get_or s.refused k 0 ≡ refused_with k mets = is.refused k in omega (arith, was))

-- The whole.

waited_here : (n : ℕ) (s : Sums) (access : Option (ℕ × ℕ)) (r : Refusal) → (tally_in (refused_in s.now access r) n).stay.sum_here ≡ (tally_in s.now n).stay.sum_here
waited_here n s access r = elim (cases_lt n (length s.now)) [
  | inl below ↦ ap (λ (t : Tally). t.stay.sum_here) (read_refused s.now access r n below)
  | inr past ↦ (let long = refused_long s.now access r in
      ap (λ (t : Tally). t.stay.sum_here) (get_or_past (refused_in s.now access r) n (blank 0) (omega (arith, long, past)) ∙ sym (get_or_past s.now n (blank 0) past)))
]

small_so : (s : Sums) (access : Option (ℕ × ℕ)) (r : Refusal) → AreSmallSums s → AreSmallSums (refused s access r)
small_so s access r small = record {
  saved = small.saved;
  revoked = small.revoked;
  here = λ n. (let same = waited_here n s access r in let was = small.here n in omega (arith, same, was));
}

refused_by : (c : Config) (ms : List Moment) (mets : List Met) (m : Met) (s : Sums) → IsSums c ms mets s → m.at ≡ length ms → IsSums c ms (mets ++ m ∷ []) (refused s m.access m.refusal)
refused_by c ms mets m s is at = record {
  site = is.site;
  level = is.level;
  levels = is.levels;
  now = λ n below. now_so c ms mets m s n is at below;
  numbers = refused_long s.now m.access m.refusal ∙ is.numbers;
  past = λ n below. is.past n below ∙ overs_same n ms mets m at;
  refused = λ k. numbers_so c ms mets m s k is;
  kinds = length-set s.refused (refusal_number m.refusal) _ ∙ is.kinds;
  early = all_append (λ (z : Met). z.at ≤ length ms) mets (m ∷ []) is.early (omega (arith, at), tt);
  small = small_so s m.access m.refusal is.small;
}

pub refuses : (c : Config) (ms : List Moment) (mets : List Met) (m : Met) (s t : Sums) (access : Option (ℕ × ℕ)) (r : Refusal) → t ≡ refused s access r → IsSums c ms mets s → m.at ≡ length ms → m.access ≡ access → m.refusal ≡ r → IsSums c ms (mets ++ m ∷ []) t
refuses c ms mets m s t access r same is at was why =
    let P : Sums → Type 0 = IsSums c ms (mets ++ m ∷ []) in
    subst P (ap (λ (o : Option (ℕ × ℕ)). refused s o m.refusal) was ∙ ap (refused s access) why ∙ sym same) (refused_by c ms mets m s is at)

-- Few.

waits_few : (s : Sums) → IsPatient s → (n : ℕ) → n < VM_NUMBERS → AreFewWaits 4294967294 (tally_in s.now n).accesses
waits_few s is n below =
    let l = lives n is.moments in
    let same = is.sums.now n below in
    let room = is.few in
    let held : (tally_in s.now n).accesses.held ≡ met_in is_held n l is.moments is.mets = ap (λ (t : Tally). t.accesses.held) same in
    let short : (tally_in s.now n).accesses.short ≡ met_in is_short n l is.moments is.mets = ap (λ (t : Tally). t.accesses.short) same in
    let held_few = count_by-le-length (is_met_in is_held n l is.moments) is.mets in
    let short_few = count_by-le-length (is_met_in is_short n l is.moments) is.mets in
    record { held = omega (arith, held, held_few, room); short = omega (arith, short, short_few, room) }

pub patient_few : (s : Sums) → IsPatient s → AreFewHits 4294967294 s.now
patient_few s is n = elim (cases_lt n VM_NUMBERS) [
  | inl below ↦ waits_few s is n below
  | inr past ↦ (let P : Tally → Type 0 = λ t. AreFewWaits 4294967294 t.accesses in
      let long = is.sums.numbers in
      let none : AreFewWaits 4294967294 (blank 0).accesses = record { held = omega arith; short = omega arith } in
      subst P (sym (get_or_past s.now n (blank 0) (omega (arith, long, past)))) none)
]

pub patient_numbers : (s : Sums) → IsPatient s → (k : ℕ) → get_or s.refused k 0 ≤ 4294967294
patient_numbers s is k =
    let same = is.sums.refused k in
    let few = count_by-le-length (λ (m : Met). refusal_number m.refusal == k) is.mets in
    let room = is.few in
    omega (arith, same, few, room)
