-- Numbers stay small along a path that is not too long.
use Rattle.std.proofs.Common.{◌≡◌, ℕ, ◌+◌, ◌*◌, ◌<◌, ◌≤◌, ◌==◌, Bool, true, false, cond, List, [], ◌∷◌, length, set, count_by, sym, ap, subst, arith, Option, Some, None, inl, inr}
use Rattle.std.proofs.lemmas.Bool.{cases_eq, cases_lt}
use Rattle.std.proofs.lemmas.List.{get_or-set_same, get_or-set_other, get_or_past, set_past}
use Rattle.std.proofs.lemmas.List.Sums.{count_by-le-length}
use Rattle.esx_types.specs.declared.config.TheConstants.{MAX_NODES, VM_NUMBERS}
use Rattle.esx_events.specs.declared.event.Event.{Event}
use Rattle.esx_events.specs.declared.event.Event.TheVariants.{Admit, Read, Write}
use Rattle.esx_model.specs.Site.{vm_at}
use Rattle.esx_story.specs.declared.change.How.{How}
use Rattle.esx_story.specs.declared.change.How.TheVariants.{Balloon, Swap, Replaced, Dropped, First, Pop, SwapIn, Share, Cow, Own}
use Rattle.esx_story.specs.declared.change.Change.{Change}
use Rattle.esx_story.specs.declared.change.Counts.{Counts}
use Rattle.esx_story.specs.Moments.{Moment}
use Rattle.esx_story.specs.Losses.{lost_at}
use Rattle.esx_story.specs.Gains.{gained_at}
use Rattle.esx_story.specs.Spans.{is_rebalance}
use Rattle.esx_story.specs.Counts.{no_counts, came_in, lost_in, with_change, counted, admits, counts_after, counts_from, counts}
use Rattle.esx_types.specs.declared.level.Level.{Level}
use Rattle.esx_types.specs.declared.level.Level.TheVariants.{High, Soft, Hard, Low}
use Rattle.esx_sums.specs.declared.level.Levels.{Levels}
use Rattle.esx_sums.specs.declared.tally.Accesses.{Accesses}
use Rattle.esx_sums.specs.declared.tally.Moves.{Moves}
use Rattle.esx_sums.specs.declared.tally.Tally.{Tally}
use Rattle.esx_sums.specs.Lives.{lived, lives}
use Rattle.esx_sums.specs.Guests.{is_read, is_write, is_there, is_above, is_below}
use Rattle.esx_sums.specs.Moving.{moved_at, is_so, is_share, is_cow, is_own, host_at, is_vm}
use Rattle.esx_sums.specs.Site.{is_level, enters, level_sums}
use Rattle.esx_sums.specs.Sums.{Sums, blank, tally_in, with_access, with_move, accessed_in, counted_in, moved_in, hosted_in, begun_in}
use Rattle.esx_sums.specs.Few.{AreFewAccesses, AreFewMoves, IsFew, AreFew, IsShortSite, IsShortLevel, AreShortLevels}
use Rattle.esx_sums.specs.Accounts.{IsShort}
use Rattle.esx_sums.proofs.Along.{lives_few, lived_short}

-- Of one machine.

few_more : (j k : ℕ) (t : Tally) → j ≤ k → IsFew j t → IsFew k t
few_more j k t less few =
    let a = few.accesses in
    let m = few.moves in
    let s = few.stay in
    record {
      life = omega arith;
      accesses = record { reads = omega arith; writes = omega arith };
      counts = omega arith;
      moves = record { share = omega arith; host = omega arith; cow = omega arith; own = omega arith };
      stay = record { events = omega arith; above = omega arith; below = omega arith; sum_here = omega arith };
    }

pub few_in : (j k : ℕ) (now : List Tally) → j ≤ k → AreFew j now → AreFew k now
few_in j k now less few n = few_more j k (tally_in now n) less (few n)

blank_few : (k l : ℕ) → l ≤ k → IsFew k (blank l)
blank_few k l less = record {
  life = less;
  accesses = record { reads = omega arith; writes = omega arith };
  counts = omega arith;
  moves = record { share = omega arith; host = omega arith; cow = omega arith; own = omega arith };
  stay = record { events = omega arith; above = omega arith; below = omega arith; sum_here = omega arith };
}

set_few : (k : ℕ) (now : List Tally) (m : ℕ) (t : Tally) → AreFew k now → IsFew k t → AreFew k (set now m t)
set_few k now m t few is n = elim (cases_eq n m) [
  | inl e ↦ (let P : ℕ → Type 0 = λ j. IsFew k (tally_in (set now m t) j) in subst P (sym e) own)
  | inr other ↦ (let P : Tally → Type 0 = IsFew k in subst P (sym (get_or-set_other now m n t (blank 0) other)) (few n))
]
  where
    own : IsFew k (tally_in (set now m t) m)
    own = elim (cases_lt m (length now)) [
      | inl below ↦ (let P : Tally → Type 0 = IsFew k in subst P (sym (get_or-set_same now m t (blank 0) below)) is)
      | inr past ↦ (let P : List Tally → Type 0 = λ ts. IsFew k (tally_in ts m) in subst P (sym (set_past now m t past)) (few m))
    ]

-- After each step.

pub begun_few : (k : ℕ) (now : List Tally) (e : Event) → AreFew k now → AreFew (k + 1) (begun_in now e)
begun_few k now (Admit m spec) few =
    let own = few m in
    let life = own.life in
    set_few (k + 1) now m (blank ((tally_in now m).life + 1)) (few_in k (k + 1) now (omega arith) few) (blank_few (k + 1) ((tally_in now m).life + 1) (omega (arith, life)))
begun_few k now _ few = few_in k (k + 1) now (omega arith) few

access_few : (k : ℕ) (a : Accesses) (e : Event) → AreFewAccesses k a → AreFewAccesses (k + 1) (with_access a e)
access_few k a (Read m page at len) few = record { reads = omega arith; writes = omega arith }
access_few k a (Write m page at new) few = record { reads = omega arith; writes = omega arith }
access_few k a _ few = record { reads = omega arith; writes = omega arith }

with_accesses_few : (k : ℕ) (t : Tally) (a : Accesses) → IsFew k t → AreFewAccesses (k + 1) a → IsFew (k + 1) (record t { accesses = a })
with_accesses_few k t a few is =
    let more = few_more k (k + 1) t (omega arith) few in
    record { life = more.life; accesses = is; counts = more.counts; moves = more.moves; stay = more.stay }

pub accessed_few : (k : ℕ) (now : List Tally) (e : Event) → AreFew k now → AreFew (k + 1) (accessed_in now e)
accessed_few k now (Read m page at len) few =
    set_few (k + 1) now m (record (tally_in now m) { accesses = with_access (tally_in now m).accesses (Read m page at len) }) (few_in k (k + 1) now (omega arith) few)
    (with_accesses_few k (tally_in now m) (with_access (tally_in now m).accesses (Read m page at len)) (few m) (access_few k (tally_in now m).accesses (Read m page at len) (few m).accesses))
accessed_few k now (Write m page at new) few =
    set_few (k + 1) now m (record (tally_in now m) { accesses = with_access (tally_in now m).accesses (Write m page at new) }) (few_in k (k + 1) now (omega arith) few)
    (with_accesses_few k (tally_in now m) (with_access (tally_in now m).accesses (Write m page at new)) (few m) (access_few k (tally_in now m).accesses (Write m page at new) (few m).accesses))
accessed_few k now _ few = few_in k (k + 1) now (omega arith) few

abbrev total : Counts → ℕ
total k = came_in k + lost_in k

one_total : (k : Counts) (how : How) → total (with_change k how) ≤ total k + 1
one_total k First = omega arith
one_total k Pop = omega arith
one_total k SwapIn = omega arith
one_total k Balloon = omega arith
one_total k Swap = omega arith
one_total k Replaced = omega arith
one_total k Dropped = omega arith
one_total k _ = omega arith

pub counted_few : (k : ℕ) (now : List Tally) (o : Option Change) → AreFew k now → AreFew (k + 1) (counted_in now o)
counted_few k now None few = few_in k (k + 1) now (omega arith) few
counted_few k now (Some y) few =
    let t = tally_in now y.vm in
    let more = few_more k (k + 1) t (omega arith) (few y.vm) in
    let had = (few y.vm).counts in
    let one = one_total t.counts y.how in
    set_few (k + 1) now y.vm (record t { counts = with_change t.counts y.how }) (few_in k (k + 1) now (omega arith) few)
    (record { life = more.life; accesses = more.accesses; counts = omega (arith, had, one); moves = more.moves; stay = more.stay })

move_few : (k : ℕ) (m : Moves) (how : How) → AreFewMoves k m → AreFewMoves (k + 1) (with_move m how)
move_few k m Share few = record { share = omega arith; host = omega arith; cow = omega arith; own = omega arith }
move_few k m Cow few = record { share = omega arith; host = omega arith; cow = omega arith; own = omega arith }
move_few k m Own few = record { share = omega arith; host = omega arith; cow = omega arith; own = omega arith }
move_few k m _ few = record { share = omega arith; host = omega arith; cow = omega arith; own = omega arith }

with_moves_few : (k : ℕ) (t : Tally) (m : Moves) → IsFew k t → AreFewMoves (k + 1) m → IsFew (k + 1) (record t { moves = m })
with_moves_few k t m few is =
    let more = few_more k (k + 1) t (omega arith) few in
    record { life = more.life; accesses = more.accesses; counts = more.counts; moves = is; stay = more.stay }

pub moved_few : (k : ℕ) (now : List Tally) (o : Option Change) → AreFew k now → AreFew (k + 1) (moved_in now o)
moved_few k now None few = few_in k (k + 1) now (omega arith) few
moved_few k now (Some y) few =
    let t = tally_in now y.vm in
    set_few (k + 1) now y.vm (record t { moves = with_move t.moves y.how }) (few_in k (k + 1) now (omega arith) few)
    (with_moves_few k t (with_move t.moves y.how) (few y.vm) (move_few k t.moves y.how (few y.vm).moves))

host_few : (k : ℕ) (m : Moves) → AreFewMoves k m → AreFewMoves (k + 1) (record m { host = m.host + 1 })
host_few k m few = record { share = omega arith; host = omega arith; cow = omega arith; own = omega arith }

pub hosted_few : (k : ℕ) (now : List Tally) (o : Option ℕ) → AreFew k now → AreFew (k + 1) (hosted_in now o)
hosted_few k now None few = few_in k (k + 1) now (omega arith) few
hosted_few k now (Some m) few =
    let t = tally_in now m in
    set_few (k + 1) now m (record t { moves = record t.moves { host = t.moves.host + 1 } }) (few_in k (k + 1) now (omega arith) few)
    (with_moves_few k t (record t.moves { host = t.moves.host + 1 }) (few m) (host_few k t.moves (few m).moves))

-- Along a path.

counted_total : (n : ℕ) (o : Option Change) (k : Counts) → total (counted n o k) ≤ total k + 1
counted_total n None k = omega arith
counted_total n (Some y) k = by (y.vm == n)
  where
    by : (b : Bool) → total (cond b (with_change k y.how) k) ≤ total k + 1
    by true = one_total k y.how
    by false = omega arith

after_total : (n : ℕ) (x : Moment) (k : Counts) → total (counts_after n x k) ≤ total k + 2
after_total n x k = by (admits n x.event)
  where
    by : (b : Bool) → total (cond b no_counts (counted n (lost_at x) (counted n (gained_at x) k))) ≤ total k + 2
    by true = omega arith
    by false =
        let a = counted_total n (gained_at x) k in
        let b = counted_total n (lost_at x) (counted n (gained_at x) k) in
        omega (arith, a, b)

from_total : (n : ℕ) (ms : List Moment) (k : Counts) → total (counts_from n ms k) ≤ total k + 2 * length ms
from_total n [] k = omega arith
from_total n (m ∷ ms) k =
    let a = after_total n m k in
    let b = from_total n ms (counts_after n m k) in
    omega (arith, a, b)

tally_few : (s : Sums) (is : IsShort s) (n : ℕ) → n < VM_NUMBERS → IsFew (2 * MAX_NODES) (tally_in s.now n)
tally_few s is n below =
    let ms = is.moments in
    let short = is.short in
    let l = lives n ms in
    let xs = lived n l ms in
    let same = is.sums.now n below in
    let few = lived_short n l ms in
    let few_lives = lives_few n ms 0 in
    let small = is.sums.small in
    let here = small.here n in
    let events = is.sums.site.events in
    let life : (tally_in s.now n).life ≡ l = ap (λ (t : Tally). t.life) same in
    let reads : (tally_in s.now n).accesses.reads ≡ count_by (λ (x : Moment). is_read n x.event) xs = ap (λ (t : Tally). t.accesses.reads) same in
    let reads_few = count_by-le-length (λ (x : Moment). is_read n x.event) xs in
    let writes : (tally_in s.now n).accesses.writes ≡ count_by (λ (x : Moment). is_write n x.event) xs = ap (λ (t : Tally). t.accesses.writes) same in
    let writes_few = count_by-le-length (λ (x : Moment). is_write n x.event) xs in
    let totals : total (tally_in s.now n).counts ≡ total (counts n xs) = ap (λ (t : Tally). total t.counts) same in
    let totals_few = from_total n xs no_counts in
    let share : (tally_in s.now n).moves.share ≡ count_by (λ (x : Moment). is_so n is_share (moved_at x)) xs = ap (λ (t : Tally). t.moves.share) same in
    let share_few = count_by-le-length (λ (x : Moment). is_so n is_share (moved_at x)) xs in
    let host : (tally_in s.now n).moves.host ≡ count_by (λ (x : Moment). is_vm n (host_at x)) xs = ap (λ (t : Tally). t.moves.host) same in
    let host_most = count_by-le-length (λ (x : Moment). is_vm n (host_at x)) xs in
    let cow : (tally_in s.now n).moves.cow ≡ count_by (λ (x : Moment). is_so n is_cow (moved_at x)) xs = ap (λ (t : Tally). t.moves.cow) same in
    let cow_few = count_by-le-length (λ (x : Moment). is_so n is_cow (moved_at x)) xs in
    let own : (tally_in s.now n).moves.own ≡ count_by (λ (x : Moment). is_so n is_own (moved_at x)) xs = ap (λ (t : Tally). t.moves.own) same in
    let own_few = count_by-le-length (λ (x : Moment). is_so n is_own (moved_at x)) xs in
    let there : (tally_in s.now n).stay.events ≡ count_by (λ (x : Moment). is_there (vm_at x.after.site n)) xs = ap (λ (t : Tally). t.stay.events) same in
    let there_few = count_by-le-length (λ (x : Moment). is_there (vm_at x.after.site n)) xs in
    let above : (tally_in s.now n).stay.above ≡ count_by (λ (x : Moment). is_above (vm_at x.after.site n)) xs = ap (λ (t : Tally). t.stay.above) same in
    let above_few = count_by-le-length (λ (x : Moment). is_above (vm_at x.after.site n)) xs in
    let low : (tally_in s.now n).stay.below ≡ count_by (λ (x : Moment). is_below (vm_at x.after.site n)) xs = ap (λ (t : Tally). t.stay.below) same in
    let low_few = count_by-le-length (λ (x : Moment). is_below (vm_at x.after.site n)) xs in
    record {
      life = omega (arith, life, few_lives, short);
      accesses = record { reads = omega (arith, reads, reads_few, few, short); writes = omega (arith, writes, writes_few, few, short) };
      counts = omega (arith, totals, totals_few, few, short);
      moves = record {
        share = omega (arith, share, share_few, few, short);
        host = omega (arith, host, host_most, few, short);
        cow = omega (arith, cow, cow_few, few, short);
        own = omega (arith, own, own_few, few, short);
      };
      stay = record {
        events = omega (arith, there, there_few, few, short);
        above = omega (arith, above, above_few, few, short);
        below = omega (arith, low, low_few, few, short);
        sum_here = omega (arith, here, events, short);
      };
    }

pub short_few : (s : Sums) → IsShort s → AreFew (2 * MAX_NODES) s.now
short_few s is n = elim (cases_lt n VM_NUMBERS) [
  | inl below ↦ tally_few s is n below
  | inr past ↦ (let P : Tally → Type 0 = IsFew (2 * MAX_NODES) in
      let long = is.sums.numbers in
      subst P (sym (get_or_past s.now n (blank 0) (omega (arith, long, past)))) (blank_few (2 * MAX_NODES) 0 (omega arith)))
]

pub short_site : (s : Sums) → IsShort s → IsShortSite s.site
short_site s is =
    let short = is.short in
    let site = is.sums.site in
    let events = site.events in
    let rebalances = site.rebalances in
    let few = count_by-le-length (λ (x : Moment). is_rebalance x.event) is.moments in
    let saved = is.sums.small.saved in
    let revoked = is.sums.small.revoked in
    record {
      events = omega (arith, events, short);
      rebalances = omega (arith, rebalances, few, short);
      saved_sum = omega (arith, saved, events, short);
      revoked = omega (arith, revoked, events, short);
    }

level_few : (level : Level) (ms : List Moment) → length ms < MAX_NODES → IsShortLevel (level_sums level ms)
level_few level ms short =
    let events = count_by-le-length (λ (x : Moment). is_level level x.after.level) ms in
    let entered = count_by-le-length (enters level) ms in
    record { events = omega (arith, events, short); entered = omega (arith, entered, short) }

pub short_levels : (s : Sums) → IsShort s → AreShortLevels s.levels
short_levels s is = (let P : Levels → Type 0 = AreShortLevels in
    subst P (sym is.sums.levels) (record { high = level_few High is.moments is.short; soft = level_few Soft is.moments is.short; hard = level_few Hard is.moments is.short; low = level_few Low is.moments is.short }))
