-- Numbers stay small along a path that is not too long.
use Rattle.std.proofs.Common.{◌≡◌, ℕ, zero, suc, ◌+◌, ◌*◌, ◌<◌, ◌≤◌, ◌==◌, Bool, true, false, List, [], ◌∷◌, ◌++◌, length, get_or, set, slice_get, refl, sym, ap, ◌∙◌, subst, arith, cond, Option, Some, None, inl, inr}
use Rattle.std.proofs.lemmas.List.{length-append, get_or-set_same, get_or-set_other, get_or_past, set_past}
use Rattle.std.proofs.lemmas.Bool.{cases_eq, cases_lt}
use Rattle.esx_types.specs.declared.config.TheConstants.{MAX_NODES, VM_NUMBERS}
use Rattle.esx_types.specs.declared.config.Config.{Config}
use Rattle.esx_model.specs.declared.scene.Site.{Site}
use Rattle.esx_story.specs.declared.change.How.{How}
use Rattle.esx_story.specs.declared.change.How.TheVariants.{Balloon, Swap, Replaced, Dropped, First, Pop, SwapIn}
use Rattle.esx_story.specs.declared.change.Change.{Change}
use Rattle.esx_story.specs.declared.change.Counts.{Counts}
use Rattle.esx_story.specs.declared.story.Loss.{Loss}
use Rattle.esx_story.specs.Moments.{Moment}
use Rattle.esx_story.specs.Losses.{lost_at}
use Rattle.esx_story.specs.Gains.{gained_at}
use Rattle.esx_story.specs.Counts.{no_counts, came_in, lost_in, with_change, counted, admits, counts_after, counts_from, counts, life_from}
use Rattle.esx_story.specs.Waits.{Met}
use Rattle.esx_story.specs.Story.{told_at, told_from, told}
use Rattle.esx_walk.specs.declared.lives.Life.{Life}
use Rattle.esx_walk.specs.Account.{Account, no_life, life_in, counted_in}
use Rattle.esx_walk.specs.Accounts.{IsLife, IsAccount}
use Rattle.esx_walk.specs.Few.{IsFew, AreFew, AreFewWaits, IsShort, IsPatient}
use Rattle.esx_walk.proofs.Renewed.{is_told}
use Rattle.esx_walk.proofs.Waiting.{few_waits}

abbrev total : Counts → ℕ
total k = came_in k + lost_in k

one_total : (k : Counts) (how : How) → total (with_change k how) ≤ total k + 1
one_total k First = omega arith
one_total k Pop = omega arith
one_total k SwapIn = omega arith
one_total k Balloon = omega arith
one_total k Swap = omega arith
one_total k Replaced = omega arith
one_total k Dropped = omega arith
one_total k _ = omega arith

counted_total : (n : ℕ) (o : Option Change) (k : Counts) → total (counted n o k) ≤ total k + 1
counted_total n None k = omega arith
counted_total n (Some y) k = by (y.vm == n)
  where
    by : (b : Bool) → total (cond b (with_change k y.how) k) ≤ total k + 1
    by true = one_total k y.how
    by false = omega arith

after_total : (n : ℕ) (x : Moment) (k : Counts) → total (counts_after n x k) ≤ total k + 2
after_total n x k = by (admits n x.event)
  where
    by : (b : Bool) → total (cond b no_counts (counted n (lost_at x) (counted n (gained_at x) k))) ≤ total k + 2
    by true = omega arith
    by false =
        let a = counted_total n (gained_at x) k in
        let b = counted_total n (lost_at x) (counted n (gained_at x) k) in
        omega (arith, a, b)

from_total : (n : ℕ) (ms : List Moment) (k : Counts) → total (counts_from n ms k) ≤ total k + 2 * length ms
from_total n [] k = omega arith
from_total n (m ∷ ms) k =
    let a = after_total n m k in
    let b = from_total n ms (counts_after n m k) in
    omega (arith, a, b)

counts_small : (n : ℕ) (ms : List Moment) → total (counts n ms) ≤ 2 * length ms
counts_small n ms = (let a = from_total n ms no_counts in omega (arith, a))

lives_by : (n : ℕ) (ms : List Moment) (k : ℕ) (b : Bool) → ((j : ℕ) → life_from n ms j ≤ j + length ms) → life_from n ms (cond b (k + 1) k) ≤ k + suc (length ms)
lives_by n ms k true rest = (let more = rest (k + 1) in omega (arith, more))
lives_by n ms k false rest = (let more = rest k in omega (arith, more))

lives_small : (n : ℕ) (ms : List Moment) (k : ℕ) → life_from n ms k ≤ k + length ms
lives_small n [] k = omega arith
lives_small n (m ∷ ms) k = lives_by n ms k (admits n m.event) (λ j. lives_small n ms j)

-- Of each machine.

life_few : (ms : List Moment) (n : ℕ) (l : Life) → length ms < MAX_NODES → IsLife ms n l → IsFew (2 * MAX_NODES) l
life_few ms n l short is =
    let a = lives_small n ms 0 in
    let b = is.lives in
    let c = counts_small n ms in
    let same : total l.counts ≡ total (counts n ms) = ap total is.counts in
    record { lives = omega (arith, a, b, short); counts = omega (arith, c, same, short) }

none_few : (most : ℕ) → IsFew most no_life
none_few most = record { lives = omega arith; counts = omega arith }

pub short_few : (a : Account) → IsShort a → AreFew (2 * MAX_NODES) a.lives
short_few a is n = elim (cases_lt n VM_NUMBERS) [
  | inl below ↦ life_few is.moments n (life_in a.lives n) is.short (is.account.lives n below)
  | inr past ↦ (let P : Life → Type 0 = IsFew (2 * MAX_NODES) in
      let long = is.account.numbers in
      subst P (sym (get_or_past a.lives n no_life (omega (arith, long, past)))) (none_few (2 * MAX_NODES)))
]

few_more : (j k : ℕ) (l : Life) → j ≤ k → IsFew j l → IsFew k l
few_more j k l less few = (let a = few.lives in let b = few.counts in record { lives = omega (arith, a, less); counts = omega (arith, b, less) })

pub few_in : (j k : ℕ) (lives : List Life) → j ≤ k → AreFew j lives → AreFew k lives
few_in j k lives less few n = few_more j k (life_in lives n) less (few n)

one_few : (most : ℕ) (l : Life) (how : How) → IsFew most l → IsFew (most + 1) (record l { counts = with_change l.counts how })
one_few most l how few =
    let a = few.lives in
    let b = few.counts in
    let more = one_total l.counts how in
    record { lives = omega (arith, a); counts = omega (arith, b, more) }

pub counted_few : (most : ℕ) (lives : List Life) (o : Option Change) → AreFew most lives → AreFew (most + 1) (counted_in lives o)
counted_few most lives None few n = few_more most (most + 1) (life_in lives n) (omega arith) (few n)
counted_few most lives (Some y) few n = elim (cases_eq n y.vm) [
  | inl e ↦ (let P : ℕ → Type 0 = λ k. IsFew (most + 1) (life_in (counted_in lives (Some y)) k) in subst P (sym e) own)
  | inr other ↦ (let P : Life → Type 0 = IsFew (most + 1) in subst P (sym (get_or-set_other lives y.vm n changed no_life other)) (few_more most (most + 1) (life_in lives n) (omega arith) (few n)))
]
  where
    changed : Life
    changed = record (life_in lives y.vm) { counts = with_change (life_in lives y.vm).counts y.how }

    own : IsFew (most + 1) (life_in (counted_in lives (Some y)) y.vm)
    own = elim (cases_lt y.vm (length lives)) [
      | inl below ↦ (let P : Life → Type 0 = IsFew (most + 1) in subst P (sym (get_or-set_same lives y.vm changed no_life below)) (one_few most (life_in lives y.vm) y.how (few y.vm)))
      | inr past ↦ (let P : List Life → Type 0 = λ ls. IsFew (most + 1) (life_in ls y.vm) in
          subst P (sym (set_past lives y.vm changed past)) (few_more most (most + 1) (life_in lives y.vm) (omega arith) (few y.vm)))
    ]

-- Of the losses.

at_most_one : (c : Config) (ms : List Moment) (mets : List Met) (i : ℕ) (x : Moment) (o : Option Change) → length (told_at c ms mets i x o) ≤ 1
at_most_one c ms mets i x None = omega arith
at_most_one c ms mets i x (Some y) = omega arith

told_few : (c : Config) (ms : List Moment) (mets : List Met) (i : ℕ) (some : List Moment) → length (told_from c ms mets i some) ≤ length some
told_few c ms mets i [] = omega arith
told_few c ms mets i (x ∷ some) =
    let one = at_most_one c ms mets i x (lost_at x) in
    let rest = told_few c ms mets (i + 1) some in
    let long = length-append (told_at c ms mets i x (lost_at x)) (told_from c ms mets (i + 1) some) in
    omega (arith, one, rest, long)

pub short_losses : (a : Account) → IsShort a → length a.losses < MAX_NODES
short_losses a is =
    let few = told_few is.config is.moments is.mets 1 is.moments in
    let same : length a.losses ≡ length (told is.config is.moments is.mets) = ap length is.account.losses in
    let short = is.short in
    omega (arith, few, same, short)

pub short_events : (a : Account) → IsShort a → a.events < MAX_NODES
short_events a is = (let same = is.account.events in let short = is.short in omega (arith, same, short))

pub patient_waits : (a : Account) → IsPatient a → AreFewWaits 4294967294 a.losses
patient_waits a is j l there =
    let told_l = is_told is.config is.moments is.mets j l (ap (λ ls. slice_get ls j) (sym is.account.losses) ∙ there) in
    let few = few_waits is.moments is.mets l told_l.same in
    let room = is.few in
    omega (arith, few, room)
