-- Steps that lead to a wake, and to a sleep.
use Rattle.std.proofs.Common.{◌≡◌, ◌≢◌, ℕ, Bool, true, false, if◌then◌else◌, inl, inr, refl, sym, ap, ◌∙◌}
use Rattle.esx_waiting.specs.Waiting.{Phase, Out, Comes, Found, Tells, Parks, Sleeps, Woken, Watches, Marks, Holds, Gives, Swaps, Wakes, State, nobody, moved, goes, IsStep, IsReached, LeadsTo}
use Rattle.esx_waiting.specs.Waiting.{Came, Tried, Looked, Told, FellAsleep, TookOver, Caught, Marked, Gave, Asked, Swapped, Woke, Opened, Stepped, Stays, Steps}
use Rattle.esx_waiting.specs.Wakes.{has_watch, is_waking, SomeThread}
use Rattle.esx_waiting.proofs.Keeps.{holds, here, there, Cared, IsWell, Well, step_keeps, reached_well}

abbrev pub state : Bool → Bool → Bool → Bool → (ℕ → Phase) → State
state w l d h ph = record { watched = w; sleeps = l; due = d; held = h; phase = ph }

-- thread j may be woken by steps of those that are awake
pub record MayWake (s : State) (j : ℕ) : Type 0 where
  pub after : State
  pub leads : LeadsTo s after
  pub woken : after.phase j ≡ Woken

-- a step of a thread that is awake, and then more
stepped : (i j : ℕ) (s t : State) → s.phase i ≢ Sleeps → IsStep i s t → MayWake t j → MayWake s j
stepped i j s t awake step m = record { after = m.after; leads = Steps i s t m.after awake step m.leads; woken = m.woken }

-- who sleeps does not move with one that is awake
apart : (i j : ℕ) (p : Phase) (ph : ℕ → Phase) → ph i ≡ p → p ≢ Sleeps → ph j ≡ Sleeps → j ≢ i
apart i j p ph at awake asleep same = awake (sym at ∙ ap ph (sym same) ∙ asleep)

still : (i j : ℕ) (p q : Phase) (ph : ℕ → Phase) → ph i ≡ p → p ≢ Sleeps → ph j ≡ Sleeps → moved i q ph j ≡ Sleeps
still i j p q ph at awake asleep = there i q ph j (apart i j p ph at awake asleep) ∙ asleep

up : (p q : Phase) → p ≡ q → q ≢ Sleeps → p ≢ Sleeps
up p q at awake asleep = awake (sym at ∙ asleep)

by_wakes : (i j : ℕ) (s : State) → s.phase i ≡ Wakes → s.phase j ≡ Sleeps → MayWake s j
by_wakes i j s at asleep =
    let after = goes j Woken (goes i Out s) in
    stepped i j s after (up (s.phase i) Wakes at (λ e. cc)) (Woke j at asleep) (record { after = after; leads = Stays after; woken = here j Woken (moved i Out s.phase) })

by_swaps : (i j : ℕ) (w d h : Bool) (ph : ℕ → Phase) → ph i ≡ Swaps → ph j ≡ Sleeps → MayWake (state w true d h ph) j
by_swaps i j w d h ph at asleep =
    stepped i j (state w true d h ph) (state false false false h (moved i Wakes ph)) (up (ph i) Swaps at (λ e. cc)) (Swapped at)
    (by_wakes i j (state false false false h (moved i Wakes ph)) (here i Wakes ph) (still i j Swaps Wakes ph at (λ e. cc) asleep))

by_gives : (i j : ℕ) (w h : Bool) (ph : ℕ → Phase) → ph i ≡ Gives → ph j ≡ Sleeps → MayWake (state w true true h ph) j
by_gives i j w h ph at asleep =
    stepped i j (state w true true h ph) (state w true true h (moved i Swaps ph)) (up (ph i) Gives at (λ e. cc)) (Asked at)
    (by_swaps i j w true h (moved i Swaps ph) (here i Swaps ph) (still i j Gives Swaps ph at (λ e. cc) asleep))

by_holds : (i j : ℕ) (w h : Bool) (ph : ℕ → Phase) → ph i ≡ Holds → ph j ≡ Sleeps → MayWake (state w true true h ph) j
by_holds i j w h ph at asleep =
    stepped i j (state w true true h ph) (state w true true false (moved i Gives ph)) (up (ph i) Holds at (λ e. cc)) (Gave at)
    (by_gives i j w false (moved i Gives ph) (here i Gives ph) (still i j Holds Gives ph at (λ e. cc) asleep))

by_marks : (i j : ℕ) (w d h : Bool) (ph : ℕ → Phase) → ph i ≡ Marks → ph j ≡ Sleeps → MayWake (state w true d h ph) j
by_marks i j w d h ph at asleep =
    stepped i j (state w true d h ph) (state w true true h (moved i Holds ph)) (up (ph i) Marks at (λ e. cc)) (Marked at)
    (by_holds i j w h (moved i Holds ph) (here i Holds ph) (still i j Marks Holds ph at (λ e. cc) asleep))

by_watch_free : (i j : ℕ) (w d : Bool) (ph : ℕ → Phase) → ph i ≡ Watches → ph j ≡ Sleeps → MayWake (state w true d false ph) j
by_watch_free i j w d ph at asleep =
    stepped i j (state w true d false ph) (state w true d true (moved i Marks ph)) (up (ph i) Watches at (λ e. cc)) (Caught at refl)
    (by_marks i j w d true (moved i Marks ph) (here i Marks ph) (still i j Watches Marks ph at (λ e. cc) asleep))

-- who watches waits until the lock is given back
by_watch_held : (i j k : ℕ) (w d : Bool) (ph : ℕ → Phase) → ph i ≡ Watches → ph j ≡ Sleeps → ph k ≡ Holds → MayWake (state w true d true ph) j
by_watch_held i j k w d ph at asleep holder =
    let other : i ≢ k = λ same. (let both : ph i ≡ ph k = ap ph same in cc) in
    stepped k j (state w true d true ph) (state w true d false (moved k Gives ph)) (up (ph k) Holds holder (λ e. cc)) (Gave holder)
    (by_watch_free i j w d (moved k Gives ph) (there k Gives ph i other ∙ at) (still k j Holds Gives ph holder (λ e. cc) asleep))

by_watch : (i j k : ℕ) (w d h : Bool) (ph : ℕ → Phase) (p : Phase) → ph i ≡ Watches → ph j ≡ Sleeps → ph k ≡ p → holds p ≡ true → MayWake (state w true d h ph) j
by_watch i j k w d false ph p at asleep holder passes = by_watch_free i j w d ph at asleep
by_watch i j k w d true ph Holds at asleep holder passes = by_watch_held i j k w d ph at asleep holder
by_watch i j k w d true ph Marks at asleep holder passes = by_marks k j w d true ph holder asleep
by_watch i j k w d true ph _ at asleep holder passes = cc

of_watch : (i j : ℕ) (w d h : Bool) (ph : ℕ → Phase) → (h ≡ true → SomeThread holds ph) → ph i ≡ Watches → ph j ≡ Sleeps → MayWake (state w true d h ph) j
of_watch i j w d false ph holder at asleep = by_watch_free i j w d ph at asleep
of_watch i j w d true ph holder at asleep = (let one = holder refl in by_watch i j one.0 w d true ph (ph one.0) at asleep refl one.1)

-- whoever has the watch gives it on
by_watcher : (i j : ℕ) (w d h : Bool) (ph : ℕ → Phase) (p : Phase) → (h ≡ true → SomeThread holds ph) → ph i ≡ p → has_watch d p ≡ true → ph j ≡ Sleeps → MayWake (state w true d h ph) j
by_watcher i j w d h ph Watches holder at passes asleep = of_watch i j w d h ph holder at asleep
by_watcher i j w d h ph Marks holder at passes asleep = by_marks i j w d h ph at asleep
by_watcher i j w true h ph Holds holder at passes asleep = by_holds i j w h ph at asleep
by_watcher i j w true h ph Gives holder at passes asleep = by_gives i j w h ph at asleep
by_watcher i j w d h ph Swaps holder at passes asleep = by_swaps i j w d h ph at asleep
by_watcher i j w d h ph _ holder at passes asleep = cc

from_watch : (j : ℕ) (w d h : Bool) (ph : ℕ → Phase) → w ≡ true → IsWell w true d h ph → ph j ≡ Sleeps → MayWake (state w true d h ph) j
from_watch j w d h ph watched g asleep = (let one = g.watch watched in by_watcher one.0 j w d h ph (ph one.0) g.holder refl one.1 asleep)

-- who was woken says that others sleep, and then somebody has the watch
by_woken : (i j : ℕ) (s : State) → Well s → s.phase i ≡ Woken → s.phase j ≡ Sleeps → MayWake s j
by_woken i j s g at asleep =
    let p : Phase = if s.watched then Comes else Watches in
    let after = state true true s.due s.held (moved i p s.phase) in
    let step : IsStep i s after = TookOver at in
    stepped i j s after (up (s.phase i) Woken at (λ e. cc)) step (from_watch j true s.due s.held (moved i p s.phase) refl (step_keeps i s after step g) (still i j Woken p s.phase at (λ e. cc) asleep))

by_waking : (i j : ℕ) (s : State) (p : Phase) → Well s → s.phase i ≡ p → is_waking p ≡ true → s.phase j ≡ Sleeps → MayWake s j
by_waking i j s Wakes g at passes asleep = by_wakes i j s at asleep
by_waking i j s Woken g at passes asleep = by_woken i j s g at asleep
by_waking i j s _ g at passes asleep = cc

of_well : (j : ℕ) (w l d h : Bool) (ph : ℕ → Phase) → IsWell w l d h ph → ph j ≡ Sleeps → Cared w l ph → MayWake (state w l d h ph) j
of_well j w true d h ph g asleep (inl y) = from_watch j w d h ph y.0 g asleep
of_well j w false d h ph g asleep (inl y) = cc
of_well j w l d h ph g asleep (inr y) = by_waking y.0 j (state w l d h ph) (ph y.0) g refl y.1 asleep

pub each_may_wake : (s : State) (j : ℕ) → IsReached s → s.phase j ≡ Sleeps → (after : State) × LeadsTo s after × (after.phase j ≡ Woken)
each_may_wake s j r asleep =
    let g = reached_well s r in
    let m = of_well j s.watched s.sleeps s.due s.held s.phase g asleep (g.cared j asleep) in
    (m.after, m.leads, m.woken)

-- thread 0 holds the lock, thread 1 watches, and thread 2 sleeps
pub one_sleeps : (s : State) × (j : ℕ) × IsReached s × (s.phase j ≡ Sleeps)
one_sleeps =
    let came0 = goes 0 Comes nobody in
    let holds0 = state false false false true (moved 0 Holds came0.phase) in
    let came1 = goes 1 Comes holds0 in
    let found1 = goes 1 Found came1 in
    let watches1 = state true false false true (moved 1 Watches found1.phase) in
    let came2 = goes 2 Comes watches1 in
    let found2 = goes 2 Found came2 in
    let tells2 = goes 2 Tells found2 in
    let parks2 = state true true false true (moved 2 (Parks true true false) tells2.phase) in
    let sleeps2 = goes 2 Sleeps parks2 in
    let a : IsReached came0 = Stepped 0 nobody came0 Opened (Came refl) in
    let b : IsReached holds0 = Stepped 0 came0 holds0 a (Tried refl) in
    let c : IsReached came1 = Stepped 1 holds0 came1 b (Came refl) in
    let d : IsReached found1 = Stepped 1 came1 found1 c (Tried refl) in
    let e : IsReached watches1 = Stepped 1 found1 watches1 d (Looked refl) in
    let f : IsReached came2 = Stepped 2 watches1 came2 e (Came refl) in
    let g : IsReached found2 = Stepped 2 came2 found2 f (Tried refl) in
    let h : IsReached tells2 = Stepped 2 found2 tells2 g (Looked refl) in
    let k : IsReached parks2 = Stepped 2 tells2 parks2 h (Told refl) in
    let m : IsReached sleeps2 = Stepped 2 parks2 sleeps2 k (FellAsleep true true false refl refl refl refl) in
    (sleeps2, 2, m, refl)
