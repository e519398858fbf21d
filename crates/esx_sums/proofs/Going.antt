-- Sums after one more event of their path: the whole.
use Rattle.std.proofs.Common.{◌≡◌, ℕ, zero, suc, ◌+◌, ◌*◌, ◌≤◌, Bool, true, false, cond, List, [], ◌∷◌, ◌++◌, length, get_or, sum_by, sym, ap, ◌∙◌, subst, arith, Option, Some, None, inl, inr}
use Rattle.std.specs.List.{AllByRecursion, filter}
use Rattle.std.proofs.lemmas.Bool.{cases_lt}
use Rattle.std.proofs.lemmas.List.{length-append, get_or_past}
use Rattle.std.proofs.lemmas.List.Sums.{sum_by-cons}
use Rattle.esx_types.specs.declared.config.TheConstants.{MAX_PAGES}
use Rattle.esx_types.specs.declared.config.Config.{Config}
use Rattle.esx_events.specs.declared.call.Sum.{Sum}
use Rattle.esx_events.specs.declared.event.Event.{Event}
use Rattle.esx_events.specs.declared.event.Answer.{Answer}
use Rattle.esx_model.specs.Replay.{opening}
use Rattle.esx_model.specs.declared.scene.Scene.{Scene}
use Rattle.esx_model.proofs.Callers.{all_map}
use Rattle.esx_story.specs.Moments.{Moment}
use Rattle.esx_story.specs.Counts.{admits}
use Rattle.esx_sums.specs.declared.present.Present.{Present}
use Rattle.esx_sums.specs.declared.sums.Changes.{Changes}
use Rattle.esx_sums.specs.declared.tally.Stay.{Stay}
use Rattle.esx_sums.specs.declared.tally.Tally.{Tally}
use Rattle.esx_story.specs.Waits.{Met}
use Rattle.esx_sums.specs.Site.{revoked_by}
use Rattle.esx_sums.specs.Sums.{Sums, blank, tally_in, stay_by, here_of, ended_in, tallied, gone_on}
use Rattle.esx_sums.specs.Few.{IsSmall, AreSmall, AreSmallSums}
use Rattle.esx_sums.specs.Accounts.{is_over_of, IsSums, IsNext}
use Rattle.esx_sums.proofs.Along.{end_more}
use Rattle.esx_sums.proofs.Reading.{tallied_read, tallied_long}
use Rattle.esx_sums.proofs.Living.{now_then, past_then}
use Rattle.esx_sums.proofs.Sited.{site_then, levels_then}

-- What is summed up stays within what the events allow.

small_at : (present : List (Option Present)) (n : ℕ) → AllByRecursion IsSmall present → IsSmall (get_or present n None)
small_at [] zero h = tt
small_at [] (suc n) h = tt
small_at (o ∷ present) zero h = h.0
small_at (o ∷ present) (suc n) h = small_at present n h.1

some_here : (o : Option Present) → IsSmall o → here_of o ≤ MAX_PAGES
some_here None small = omega arith
some_here (Some p) small = small.0

pub all_pages : (present : List (Option Present)) → AllByRecursion IsSmall present → sum_by here_of present ≤ length present * MAX_PAGES
all_pages [] small = omega arith
all_pages (o ∷ present) small =
    let a = sum_by-cons here_of o present in
    let one = some_here o small.0 in
    let rest = all_pages present small.1 in
    omega (arith, a, one, rest)

stay_here : (o : Option Present) (k : Stay) (most : ℕ) → IsSmall o → k.sum_here ≤ most * MAX_PAGES → (stay_by o k).sum_here ≤ (most + 1) * MAX_PAGES
stay_here None k most small h = omega (arith, h)
stay_here (Some p) k most small h = (let one = small.0 in omega (arith, h, one))

begun_here : (b : Bool) (t : Tally) (l most : ℕ) → t.stay.sum_here ≤ most → (cond b (blank l) t).stay.sum_here ≤ most
begun_here true t l most h = omega arith
begun_here false t l most h = h

tally_small : (s : Sums) (e : Event) (y : Changes) (present : List (Option Present)) (n : ℕ) → AreSmallSums s → AllByRecursion IsSmall present → (tally_in (tallied s.now e y present) n).stay.sum_here ≤ (s.site.events + 1) * MAX_PAGES
tally_small s e y present n small fine = elim (cases_lt n (length s.now)) [
  | inl below ↦ (let read = tallied_read s.now e y present n below in
      let t = cond (admits n e) (blank ((tally_in s.now n).life + 1)) (tally_in s.now n) in
      let here = begun_here (admits n e) (tally_in s.now n) ((tally_in s.now n).life + 1) (s.site.events * MAX_PAGES) (small.here n) in
      let sum = stay_here (get_or present n None) t.stay s.site.events (small_at present n fine) here in
      let is_here : (tally_in (tallied s.now e y present) n).stay.sum_here ≡ (stay_by (get_or present n None) t.stay).sum_here = ap (λ (z : Tally). z.stay.sum_here) read in
      omega (arith, is_here, sum))
  | inr past ↦ (let long = tallied_long s.now e y present in
      let none = get_or_past (tallied s.now e y present) n (blank 0) (omega (arith, long, past)) in
      let is_here : (tally_in (tallied s.now e y present) n).stay.sum_here ≡ 0 = ap (λ (z : Tally). z.stay.sum_here) none in
      omega (arith, is_here))
]

small_then : (s : Sums) (e : Event) (answer : Answer) (y : Changes) (sum : Sum) (present : List (Option Present)) → AreSmallSums s → AreSmall present → revoked_by answer ≤ 4294967295 → AreSmallSums (gone_on s e answer y sum present)
small_then s e answer y sum present small fine revoked =
    let pages = all_pages present fine.each in
    let count = fine.count in
    let saved = small.saved in
    let was = small.revoked in
    record {
      saved = omega (arith, pages, count, saved);
      revoked = omega (arith, was, revoked);
      here = λ n. tally_small s e y present n small fine.each;
    }

-- The whole.

gone_by : (c : Config) (ms : List Moment) (mets : List Met) (x : Moment) (s : Sums) (e : Event) (answer : Answer) (y : Changes) (sum : Sum) (present : List (Option Present))
    → AreSmall present → revoked_by answer ≤ 4294967295 → IsSums c ms mets s → IsNext c ms x e answer y sum present → IsSums c (ms ++ x ∷ []) mets (gone_on s e answer y sum present)
gone_by c ms mets x s e answer y sum present fine revoked is nexts = record {
  site = site_then c ms x s.site e answer y sum present is.site nexts;
  level = nexts.level ∙ ap (λ (t : Scene). t.level) (sym (end_more (opening c) ms x));
  levels = levels_then ms x s.levels s.level sum.level is.levels (is.level ∙ ap (λ (t : Scene). t.level) (sym nexts.before)) nexts.level;
  now = λ n below. now_then c ms mets x s e answer y sum present n is nexts below;
  numbers = tallied_long s.now e y present ∙ is.numbers;
  past = λ n below. ap (λ (z : Event). filter (is_over_of n) (ended_in s.past s.now z)) (sym nexts.made) ∙ past_then c ms mets x s n is below;
  refused = is.refused;
  kinds = is.kinds;
  early = all_map (λ (m : Met). m.at ≤ length ms) (λ (m : Met). m.at ≤ length (ms ++ x ∷ [])) (λ m h. (let long = length-append ms (x ∷ []) in omega (arith, long, h))) mets is.early;
  small = small_then s e answer y sum present is.small fine revoked;
}

pub goes_on : (c : Config) (ms : List Moment) (mets : List Met) (x : Moment) (s t : Sums) (e : Event) (answer : Answer) (y : Changes) (sum : Sum) (present : List (Option Present)) → t ≡ gone_on s e answer y sum present
    → AreSmall present → revoked_by answer ≤ 4294967295 → IsSums c ms mets s → IsNext c ms x e answer y sum present → IsSums c (ms ++ x ∷ []) mets t
goes_on c ms mets x s t e answer y sum present same fine revoked is nexts =
    let P : Sums → Type 0 = IsSums c (ms ++ x ∷ []) mets in
    subst P (sym same) (gone_by c ms mets x s e answer y sum present fine revoked is nexts)
