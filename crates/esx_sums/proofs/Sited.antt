-- Sums after one more event of their path: the site and its levels.
use Rattle.std.proofs.Common.{zero, suc, ◌≡◌, ℕ, ◌+◌, ◌-◌, cond, List, [], ◌∷◌, ◌++◌, length, count_by, sum_by, replicate, refl, sym, ap, ◌∙◌, arith, Option, Some, None, option_map}
use Rattle.std.proofs.lemmas.List.{length-append, length-map, map-append}
use Rattle.std.proofs.lemmas.List.Sums.{sum_by_push, sum_by-cons}
use Rattle.esx_types.specs.declared.config.TheConstants.{VM_NUMBERS}
use Rattle.esx_types.specs.declared.config.Config.{Config}
use Rattle.esx_types.specs.declared.level.Level.{Level}
use Rattle.esx_types.specs.declared.level.Level.TheVariants.{High, Soft, Hard, Low}
use Rattle.esx_events.specs.declared.call.Sum.{Sum}
use Rattle.esx_events.specs.declared.event.Event.{Event}
use Rattle.esx_events.specs.declared.event.Answer.{Answer}
use Rattle.esx_model.specs.declared.scene.Vm.{Vm}
use Rattle.esx_model.specs.declared.scene.Scene.{Scene}
use Rattle.esx_model.specs.Replay.{opening}
use Rattle.esx_story.specs.Changes.{resident_in}
use Rattle.esx_story.specs.Moments.{Moment}
use Rattle.esx_story.specs.Spans.{is_rebalance}
use Rattle.esx_sums.specs.declared.level.LevelSums.{LevelSums}
use Rattle.esx_sums.specs.declared.level.Levels.{Levels}
use Rattle.esx_sums.specs.declared.present.Present.{Present}
use Rattle.esx_sums.specs.declared.site.Extreme.{Extreme}
use Rattle.esx_sums.specs.declared.site.SiteSums.{SiteSums}
use Rattle.esx_sums.specs.declared.sums.Changes.{Changes}
use Rattle.esx_sums.specs.Extremes.{lower, higher, least_from, most_from, least, most}
use Rattle.esx_sums.specs.Lives.{end_of}
use Rattle.esx_sums.specs.Site.{free_in, private_in, shared_in, pages_in, out_in, slots_in, saved_in, after_each, revoked_by, IsSiteSums, is_level, enters, level_sums, levels}
use Rattle.esx_sums.specs.Sums.{one_if, present_of, here_of, out_of, saved_of, site_after, level_after, levels_after}
use Rattle.esx_sums.specs.Accounts.{AreAll, IsNext}
use Rattle.esx_sums.proofs.Lists.{count_push, sum_map}
use Rattle.esx_sums.proofs.Along.{end_more}

-- Extremes.

least_push : (best : Extreme) (i : ℕ) (vs : List ℕ) (v : ℕ) → least_from best i (vs ++ v ∷ []) ≡ lower (least_from best i vs) (i + length vs) v
least_push best i [] v = ap (λ k. lower best k v) (let e : i ≡ i + 0 = omega arith in e)
least_push best i (w ∷ vs) v =
    least_push (lower best i w) (i + 1) vs v ∙ ap (λ k. lower (least_from (lower best i w) (i + 1) vs) k v) (let e : i + 1 + length vs ≡ i + suc (length vs) = omega arith in e)

most_push : (best : Extreme) (i : ℕ) (vs : List ℕ) (v : ℕ) → most_from best i (vs ++ v ∷ []) ≡ higher (most_from best i vs) (i + length vs) v
most_push best i [] v = ap (λ k. higher best k v) (let e : i ≡ i + 0 = omega arith in e)
most_push best i (w ∷ vs) v =
    most_push (higher best i w) (i + 1) vs v ∙ ap (λ k. higher (most_from (higher best i w) (i + 1) vs) k v) (let e : i + 1 + length vs ≡ i + suc (length vs) = omega arith in e)

after_more : (what : Scene → ℕ) (ms : List Moment) (x : Moment) → after_each what (ms ++ x ∷ []) ≡ after_each what ms ++ what x.after ∷ []
after_more what ms x = map-append (λ (y : Moment). what y.after) ms (x ∷ [])

next_place : (what : Scene → ℕ) (ms : List Moment) → 1 + length (after_each what ms) ≡ length ms + 1
next_place what ms = (let long = length-map ms (λ (y : Moment). what y.after) in omega (arith, long))

least_more : (v : ℕ) (what : Scene → ℕ) (ms : List Moment) (x : Moment) → least v (after_each what (ms ++ x ∷ [])) ≡ lower (least v (after_each what ms)) (length ms + 1) (what x.after)
least_more v what ms x =
    ap (least v) (after_more what ms x) ∙ least_push (record { number = v; event = 0 }) 1 (after_each what ms) (what x.after)
    ∙ ap (λ k. lower (least v (after_each what ms)) k (what x.after)) (next_place what ms)

most_more : (v : ℕ) (what : Scene → ℕ) (ms : List Moment) (x : Moment) → most v (after_each what (ms ++ x ∷ [])) ≡ higher (most v (after_each what ms)) (length ms + 1) (what x.after)
most_more v what ms x =
    ap (most v) (after_more what ms x) ∙ most_push (record { number = v; event = 0 }) 1 (after_each what ms) (what x.after)
    ∙ ap (λ k. higher (most v (after_each what ms)) k (what x.after)) (next_place what ms)

lower_by : (b : Extreme) (i v : ℕ) (d : Extreme) (j w : ℕ) → b ≡ d → i ≡ j → v ≡ w → lower b i v ≡ lower d j w
lower_by b i v d j w x y z = ap (λ k. lower k i v) x ∙ ap (λ k. lower d k v) y ∙ ap (λ k. lower d j k) z

higher_by : (b : Extreme) (i v : ℕ) (d : Extreme) (j w : ℕ) → b ≡ d → i ≡ j → v ≡ w → higher b i v ≡ higher d j w
higher_by b i v d j w x y z = ap (λ k. higher k i v) x ∙ ap (λ k. higher d k v) y ∙ ap (λ k. higher d j k) z

-- Of all machines.

here_is : (o : Option Vm) → here_of (option_map present_of o) ≡ resident_in o
here_is None = refl
here_is (Some v) = refl

out_is : (o : Option Vm) → out_of (option_map present_of o) ≡ out_in o
out_is None = refl
out_is (Some v) = refl

-- what is told of no machine adds nothing
blank_sum : (by : Option Present → ℕ) (k : ℕ) → by None ≡ 0 → sum_by by (replicate k None) ≡ 0
blank_sum by zero none = refl
blank_sum by (suc k) none =
    let a = sum_by-cons by None (replicate k None) in
    let rest = blank_sum by k none in
    omega (arith, a, none, rest)

with_blank : (by : Option Present → ℕ) (present : List (Option Present)) (k : ℕ) → by None ≡ 0 → sum_by by present ≡ sum_by by (present ++ replicate k None)
with_blank by [] k none = sym (blank_sum by k none)
with_blank by (o ∷ present) k none =
    let a = sum_by-cons by o present in
    let b = sum_by-cons by o (present ++ replicate k None) in
    let rest = with_blank by present k none in
    omega (arith, a, b, rest)

pages_told : (t : Scene) (present : List (Option Present)) → AreAll present t.site → sum_by here_of present ≡ pages_in t
pages_told t present is = with_blank here_of present (VM_NUMBERS - length present) refl ∙ ap (sum_by here_of) is ∙ sum_map here_of (λ (o : Option Vm). option_map present_of o) resident_in t.site.vms here_is

slots_told : (t : Scene) (present : List (Option Present)) → AreAll present t.site → sum_by out_of present ≡ slots_in t
slots_told t present is = with_blank out_of present (VM_NUMBERS - length present) refl ∙ ap (sum_by out_of) is ∙ sum_map out_of (λ (o : Option Vm). option_map present_of o) out_in t.site.vms out_is

-- The site.

pub site_then : (c : Config) (ms : List Moment) (x : Moment) (s : SiteSums) (e : Event) (answer : Answer) (y : Changes) (sum : Sum) (present : List (Option Present)) → IsSiteSums c ms s → IsNext c ms x e answer y sum present
    → IsSiteSums c (ms ++ x ∷ []) (site_after s e answer sum (sum_by here_of present) (sum_by out_of present))
site_then c ms x s e answer y sum present is nexts =
    let ends : x.after ≡ end_of c (ms ++ x ∷ []) = sym (end_more (opening c) ms x) in
    let pages = pages_told x.after present nexts.stands in
    let slots = slots_told x.after present nexts.stands in
    let saved : saved_of sum (sum_by here_of present) ≡ saved_in c x.after =
    ap (λ k. k - (sum.private + sum.shared)) pages ∙ ap (λ k. pages_in x.after - (k + sum.shared)) nexts.private ∙ ap (λ k. pages_in x.after - (private_in c x.after + k)) nexts.shared in
    let next : s.events + 1 ≡ length ms + 1 = ap (λ k. k + 1) is.events in
    record {
      events = next ∙ sym (length-append ms (x ∷ []));
      least_free = lower_by s.least_free (s.events + 1) sum.free (least (free_in c (opening c)) (after_each (free_in c) ms)) (length ms + 1) (free_in c x.after) is.least_free next nexts.free
          ∙ sym (least_more (free_in c (opening c)) (free_in c) ms x);
      most_pages = higher_by s.most_pages (s.events + 1) (sum_by here_of present) (most (pages_in (opening c)) (after_each pages_in ms)) (length ms + 1) (pages_in x.after) is.most_pages next pages
          ∙ sym (most_more (pages_in (opening c)) pages_in ms x);
      most_saved = higher_by s.most_saved (s.events + 1) (saved_of sum (sum_by here_of present)) (most (saved_in c (opening c)) (after_each (saved_in c) ms)) (length ms + 1) (saved_in c x.after) is.most_saved next saved
          ∙ sym (most_more (saved_in c (opening c)) (saved_in c) ms x);
      most_slots = higher_by s.most_slots (s.events + 1) (sum_by out_of present) (most (slots_in (opening c)) (after_each slots_in ms)) (length ms + 1) (slots_in x.after) is.most_slots next slots
          ∙ sym (most_more (slots_in (opening c)) slots_in ms x);
      saved_sum = ap (λ k. k + saved_of sum (sum_by here_of present)) is.saved_sum ∙ ap (λ k. sum_by (λ (z : Moment). saved_in c z.after) ms + k) saved ∙ sym (sum_by_push (λ (z : Moment). saved_in c z.after) ms x);
      rebalances = ap (λ k. k + one_if (is_rebalance e)) is.rebalances ∙ ap (λ (z : Event). count_by (λ (m : Moment). is_rebalance m.event) ms + one_if (is_rebalance z)) (sym nexts.made)
          ∙ sym (count_push (λ (m : Moment). is_rebalance m.event) ms x);
      revoked = ap (λ k. k + revoked_by answer) is.revoked ∙ ap (λ (z : Answer). sum_by (λ (m : Moment). revoked_by m.answer) ms + revoked_by z) (sym nexts.told)
          ∙ sym (sum_by_push (λ (m : Moment). revoked_by m.answer) ms x);
      free = nexts.free ∙ ap (free_in c) ends;
      pages = pages ∙ ap pages_in ends;
      private = nexts.private ∙ ap (private_in c) ends;
      shared = nexts.shared ∙ ap (shared_in c) ends;
      out = slots ∙ ap slots_in ends;
    }

-- Levels.

level_then : (level : Level) (ms : List Moment) (x : Moment) → level_sums level (ms ++ x ∷ []) ≡ level_after (level_sums level ms) x.before.level x.after.level
level_then level ms x =
    let p = λ (m : Moment). is_level level m.after.level in
    ap (λ k. let r : LevelSums = record { level = level; events = k; entered = count_by (enters level) (ms ++ x ∷ []) } in r) (count_push p ms x)
    ∙ ap (λ k. let r : LevelSums = record { level = level; events = count_by p ms + cond (p x) 1 0; entered = k } in r) (count_push (enters level) ms x)

pub levels_then : (ms : List Moment) (x : Moment) (s : Levels) (before after : Level) → s ≡ levels ms → before ≡ x.before.level → after ≡ x.after.level → levels_after s before after ≡ levels (ms ++ x ∷ [])
levels_then ms x s before after is was will =
    ap (λ (z : Levels). levels_after z before after) is ∙ ap (λ z. levels_after (levels ms) z after) was ∙ ap (levels_after (levels ms) x.before.level) will
    ∙ sym (
    ap (λ z. lv z (level_sums Soft later) (level_sums Hard later) (level_sums Low later)) (level_then High ms x)
    ∙ ap (λ z. lv (next High) z (level_sums Hard later) (level_sums Low later)) (level_then Soft ms x)
    ∙ ap (λ z. lv (next High) (next Soft) z (level_sums Low later)) (level_then Hard ms x)
    ∙ ap (λ z. lv (next High) (next Soft) (next Hard) z) (level_then Low ms x)
    )
  where
    later : List Moment
    later = ms ++ x ∷ []

    lv : LevelSums → LevelSums → LevelSums → LevelSums → Levels
    lv a b c d = record { high = a; soft = b; hard = c; low = d }

    next : Level → LevelSums
    next level = level_after (level_sums level ms) x.before.level x.after.level
