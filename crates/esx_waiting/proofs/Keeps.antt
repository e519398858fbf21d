-- What each step keeps.
use Rattle.std.proofs.Common.{◌≡◌, ◌≢◌, ℕ, ◌==◌, Bool, true, false, ◌&&◌, if◌then◌else◌, cond, ◌⊎◌, inl, inr, refl, sym, ap, ◌∙◌}
use Rattle.std.proofs.lemmas.Bool.Decides.{eqb_tells}
use Rattle.esx_waiting.specs.Waiting.{Phase, Out, Parks, Sleeps, Woken, Watches, Marks, Holds, Gives, Swaps, Wakes, State, moved, IsStep, IsReached}
use Rattle.esx_waiting.specs.Waiting.{Came, Tried, GaveUp, Looked, Told, FellAsleep, StayedUp, WokeUp, TookOver, Napped, Caught, Marked, Gave, Asked, Swapped, Woke, WokeNobody, Opened, Stepped}
use Rattle.esx_waiting.specs.Wakes.{has_watch, is_waking, SomeThread, IsWakeComing}

-- has the thread the lock?
abbrev pub holds : Phase → Bool
holds Marks = true
holds Holds = true
holds _ = false

-- is a thread to fall asleep only while it is said that somebody watches and that somebody sleeps?
abbrev pub is_sure : Phase → Bool
is_sure (Parks watched sleeps due) = watched && sleeps
is_sure _ = true

-- both are said, or a thread is about to wake one or was woken
abbrev pub Cared : Bool → Bool → (ℕ → Phase) → Type 0
Cared w l ph = (w ≡ true) × (l ≡ true) ⊎ SomeThread is_waking ph

-- What holds wherever steps lead, of the bits watched, sleeps and due, of whether the lock is held, and of the phases. Where watched is set some thread
-- has the watch: first the one that set it, and then whoever finds it due. Where the lock is held some thread has it.
pub record IsWell (w l d h : Bool) (ph : ℕ → Phase) : Type 0 where
  pub watch : w ≡ true → SomeThread (has_watch d) ph
  pub sure : (k : ℕ) → is_sure (ph k) ≡ true
  pub cared : (k : ℕ) → ph k ≡ Sleeps → Cared w l ph
  pub holder : h ≡ true → SomeThread holds ph

-- a thread that moved is there, and any other is where it was
pub here : (i : ℕ) (p : Phase) (ph : ℕ → Phase) → moved i p ph i ≡ p
here i p ph = of (eqb_tells i i)
  where
    of : (((i == i) ≡ true) × (i ≡ i)) ⊎ (((i == i) ≡ false) × (i ≢ i)) → moved i p ph i ≡ p
    of (inl e) = ap (λ b. cond b p (ph i)) e.0
    of (inr e) = absurd (e.1 refl)

pub there : (i : ℕ) (p : Phase) (ph : ℕ → Phase) (k : ℕ) → k ≢ i → moved i p ph k ≡ ph k
there i p ph k other = of (eqb_tells k i)
  where
    of : (((k == i) ≡ true) × (k ≡ i)) ⊎ (((k == i) ≡ false) × (k ≢ i)) → moved i p ph k ≡ ph k
    of (inl e) = absurd (other e.1)
    of (inr e) = ap (λ b. cond b p (ph k)) e.0

pub either : (i : ℕ) (p : Phase) (ph : ℕ → Phase) (k : ℕ) → (k ≡ i) × (moved i p ph k ≡ p) ⊎ (k ≢ i) × (moved i p ph k ≡ ph k)
either i p ph k = of (eqb_tells k i)
  where
    of : (((k == i) ≡ true) × (k ≡ i)) ⊎ (((k == i) ≡ false) × (k ≢ i)) → (k ≡ i) × (moved i p ph k ≡ p) ⊎ (k ≢ i) × (moved i p ph k ≡ ph k)
    of (inl e) = inl (e.1, ap (λ b. cond b p (ph k)) e.0)
    of (inr e) = inr (e.1, ap (λ b. cond b p (ph k)) e.0)

-- where each thread passes a test, and the one that moves too, each does after it
pub all_stay : (test : Phase → Bool) (i : ℕ) (p : Phase) (ph : ℕ → Phase) → ((k : ℕ) → test (ph k) ≡ true) → test p ≡ true → (k : ℕ) → test (moved i p ph k) ≡ true
all_stay test i p ph all new k = of (either i p ph k)
  where
    of : (k ≡ i) × (moved i p ph k ≡ p) ⊎ (k ≢ i) × (moved i p ph k ≡ ph k) → test (moved i p ph k) ≡ true
    of (inl e) = ap test e.1 ∙ new
    of (inr e) = ap test e.1 ∙ all k

-- one that moved passes
pub one_here : (test : Phase → Bool) (i : ℕ) (p : Phase) (ph : ℕ → Phase) → test p ≡ true → SomeThread test (moved i p ph)
one_here test i p ph new = (i, ap test (here i p ph) ∙ new)

-- where some thread passes, and a move of that one leaves it so, some thread does after the move
pub one_stays : (test : Phase → Bool) (i : ℕ) (p : Phase) (ph : ℕ → Phase) → SomeThread test ph → (test (ph i) ≡ true → test p ≡ true) → SomeThread test (moved i p ph)
one_stays test i p ph one moves = of (either i p ph one.0)
  where
    of : (one.0 ≡ i) × (moved i p ph one.0 ≡ p) ⊎ (one.0 ≢ i) × (moved i p ph one.0 ≡ ph one.0) → SomeThread test (moved i p ph)
    of (inl e) = one_here test i p ph (moves (ap (λ k. test (ph k)) (sym e.0) ∙ one.1))
    of (inr e) = (one.0, ap test e.1 ∙ one.1)

abbrev pub Well : State → Type 0
Well s = IsWell s.watched s.sleeps s.due s.held s.phase

-- a move keeps what holds, if it keeps a watch and a holder and does not leave those who sleep alone
kept : (i : ℕ) (p : Phase) (s : State) (w l d h : Bool) → Well s → (w ≡ true → SomeThread (has_watch d) (moved i p s.phase)) → is_sure p ≡ true
    → (s.watched ≡ true → s.sleeps ≡ true → Cared w l (moved i p s.phase)) → (is_waking (s.phase i) ≡ true → Cared w l (moved i p s.phase))
    → (p ≡ Sleeps → Cared w l (moved i p s.phase)) → (h ≡ true → SomeThread holds (moved i p s.phase)) → IsWell w l d h (moved i p s.phase)
kept i p s w l d h g watch sure said waking asleep holder =
    record { watch = watch; sure = all_stay is_sure i p s.phase g.sure sure; cared = λ k at. of k (either i p s.phase k) at; holder = holder }
  where
    by : (m : ℕ) → is_waking (s.phase m) ≡ true → (m ≡ i) × (moved i p s.phase m ≡ p) ⊎ (m ≢ i) × (moved i p s.phase m ≡ s.phase m) → Cared w l (moved i p s.phase)
    by m y (inl q) = waking (ap (λ k. is_waking (s.phase k)) (sym q.0) ∙ y)
    by m y (inr q) = inr (m, ap is_waking q.1 ∙ y)

    before : Cared s.watched s.sleeps s.phase → Cared w l (moved i p s.phase)
    before (inl y) = said y.0 y.1
    before (inr y) = by y.0 y.1 (either i p s.phase y.0)

    of : (k : ℕ) → (k ≡ i) × (moved i p s.phase k ≡ p) ⊎ (k ≢ i) × (moved i p s.phase k ≡ s.phase k) → moved i p s.phase k ≡ Sleeps → Cared w l (moved i p s.phase)
    of k (inl q) at = asleep (sym q.1 ∙ at)
    of k (inr q) at = before (g.cared k (sym q.1 ∙ at))

-- so does one that changes no bit
plain : (i : ℕ) (p : Phase) (s : State) → Well s → (has_watch s.due (s.phase i) ≡ true → has_watch s.due p ≡ true) → is_sure p ≡ true
    → (is_waking (s.phase i) ≡ true → is_waking p ≡ true) → (p ≡ Sleeps → Cared s.watched s.sleeps (moved i p s.phase)) → (holds (s.phase i) ≡ true → holds p ≡ true)
    → IsWell s.watched s.sleeps s.due s.held (moved i p s.phase)
plain i p s g watch sure waking asleep holder =
    kept i p s s.watched s.sleeps s.due s.held g (λ y. one_stays (has_watch s.due) i p s.phase (g.watch y) watch) sure (λ y z. inl (y, z))
    (λ y. inr (one_here is_waking i p s.phase (waking y))) asleep (λ y. one_stays holds i p s.phase (g.holder y) holder)

-- a move by what was read
by : (i : ℕ) (p q : Phase) (ph : ℕ → Phase) (w l d h : Bool) (read : Bool) → (read ≡ true → IsWell w l d h (moved i p ph)) → (read ≡ false → IsWell w l d h (moved i q ph))
    → IsWell w l d h (moved i (if read then p else q) ph)
by i p q ph w l d h true yea nay = yea refl
by i p q ph w l d h false yea nay = nay refl

-- who has the watch has it where the watch becomes due
due_on : (d e : Bool) (p : Phase) → (d ≡ true → e ≡ true) → has_watch d p ≡ true → has_watch e p ≡ true
due_on d e Holds more y = more y
due_on d e Gives more y = more y
due_on d e Watches more y = refl
due_on d e Marks more y = refl
due_on d e Swaps more y = refl
due_on d e _ more y = y

due_stays : (d e : Bool) (ph : ℕ → Phase) → (d ≡ true → e ≡ true) → SomeThread (has_watch d) ph → SomeThread (has_watch e) ph
due_stays d e ph more one = (one.0, due_on d e (ph one.0) more one.1)

both : (a b : Bool) → (a && b) ≡ true → (a ≡ true) × (b ≡ true)
both true true y = (refl, refl)
both true false y = cc
both false b y = cc

-- who wakes another one goes, and that one was woken
woke : (i j : ℕ) (s : State) → s.phase i ≡ Wakes → s.phase j ≡ Sleeps → Well s → IsWell s.watched s.sleeps s.due s.held (moved j Woken (moved i Out s.phase))
woke i j s at sleeper g =
    let ph = moved i Out s.phase in
    let other : j ≢ i = λ same. (let there : s.phase j ≡ Wakes = ap s.phase same ∙ at in cc) in
    let after : ph j ≡ Sleeps = there i Out s.phase j other ∙ sleeper in
    record {
      watch = λ y. one_stays (has_watch s.due) j Woken ph (one_stays (has_watch s.due) i Out s.phase (g.watch y) (λ z. cc)) (λ z. cc);
      sure = all_stay is_sure j Woken ph (all_stay is_sure i Out s.phase g.sure refl) refl;
      cared = λ k asleep. inr (one_here is_waking j Woken ph refl);
      holder = λ y. one_stays holds j Woken ph (one_stays holds i Out s.phase (g.holder y) (λ z. cc)) (λ z. cc);
    }

woke_nobody : (i : ℕ) (s : State) → s.phase i ≡ Wakes → ((j : ℕ) → s.phase j ≢ Sleeps) → Well s → IsWell s.watched s.sleeps s.due s.held (moved i Out s.phase)
woke_nobody i s at none g = record {
  watch = λ y. one_stays (has_watch s.due) i Out s.phase (g.watch y) (λ z. cc);
  sure = all_stay is_sure i Out s.phase g.sure refl;
  cared = λ k asleep. absurd (of k (either i Out s.phase k) asleep);
  holder = λ y. one_stays holds i Out s.phase (g.holder y) (λ z. cc);
}
  where
    of : (k : ℕ) → (k ≡ i) × (moved i Out s.phase k ≡ Out) ⊎ (k ≢ i) × (moved i Out s.phase k ≡ s.phase k) → moved i Out s.phase k ≡ Sleeps → ⊥
    of k (inl q) asleep = cc
    of k (inr q) asleep = none k (sym q.1 ∙ asleep)

pub step_keeps : (i : ℕ) (s after : State) → IsStep i s after → Well s → Well after
step_keeps i s after (Came at) g = plain i _ s g (λ y. cc) refl (λ y. cc) (λ y. cc) (λ y. cc)
step_keeps i s after (Tried at) g =
    let watch = λ (p : Phase) (y : s.watched ≡ true). one_stays (has_watch s.due) i p s.phase (g.watch y) (λ z. cc) in
    by i _ _ s.phase _ _ _ _ s.held
    (λ on. kept i _ s _ _ _ _ g (λ y. watch _ y) refl (λ y z. inl (y, z)) (λ y. cc) (λ y. cc) (λ y. one_stays holds i _ s.phase (g.holder on) (λ z. cc)))
    (λ off. kept i _ s _ _ _ _ g (λ y. watch _ y) refl (λ y z. inl (y, z)) (λ y. cc) (λ y. cc) (λ y. one_here holds i _ s.phase refl))
step_keeps i s after (GaveUp at) g = plain i _ s g (λ y. cc) refl (λ y. cc) (λ y. cc) (λ y. cc)
step_keeps i s after (Looked at) g =
    by i _ _ s.phase _ _ _ _ s.watched
    (λ on. kept i _ s _ _ _ _ g (λ y. one_stays (has_watch s.due) i _ s.phase (g.watch on) (λ z. cc)) refl (λ y z. inl (refl, z)) (λ y. cc) (λ y. cc) (λ y. one_stays holds i _ s.phase (g.holder y) (λ z. cc)))
    (λ off. kept i _ s _ _ _ _ g (λ y. one_here (has_watch s.due) i _ s.phase refl) refl (λ y z. inl (refl, z)) (λ y. cc) (λ y. cc) (λ y. one_stays holds i _ s.phase (g.holder y) (λ z. cc)))
step_keeps i s after (Told at) g =
    by i _ _ s.phase _ _ _ _ s.watched
    (λ on. kept i _ s _ _ _ _ g (λ y. one_stays (has_watch s.due) i _ s.phase (g.watch y) (λ z. cc)) (cc) (λ y z. inl (y, refl)) (λ y. cc) (λ y. cc) (λ y. one_stays holds i _ s.phase (g.holder y) (λ z. cc)))
    (λ off. kept i _ s _ _ _ _ g (λ y. one_stays (has_watch s.due) i _ s.phase (g.watch y) (λ z. cc)) (cc) (λ y z. inl (y, refl)) (λ y. cc) (λ y. cc) (λ y. one_stays holds i _ s.phase (g.holder y) (λ z. cc)))
step_keeps i s after (FellAsleep watched sleeps due at x y z) g =
    let two = both watched sleeps (sym (ap is_sure at) ∙ g.sure i) in
    plain i _ s g (λ q. cc) refl (λ q. cc) (λ q. inl (x ∙ two.0, y ∙ two.1)) (λ q. cc)
step_keeps i s after (StayedUp watched sleeps due at) g = plain i _ s g (λ y. cc) refl (λ y. refl) (λ y. cc) (λ y. cc)
step_keeps i s after (WokeUp at) g = plain i _ s g (λ y. cc) refl (λ y. refl) (λ y. cc) (λ y. cc)
step_keeps i s after (TookOver at) g =
    by i _ _ s.phase _ _ _ _ s.watched
    (λ on. kept i _ s _ _ _ _ g (λ y. one_stays (has_watch s.due) i _ s.phase (g.watch on) (λ z. cc)) refl (λ y z. inl (refl, refl)) (λ y. inl (refl, refl)) (λ y. cc) (λ y. one_stays holds i _ s.phase (g.holder y) (λ z. cc)))
    (λ off. kept i _ s _ _ _ _ g (λ y. one_here (has_watch s.due) i _ s.phase refl) refl (λ y z. inl (refl, refl)) (λ y. inl (refl, refl)) (λ y. cc) (λ y. one_stays holds i _ s.phase (g.holder y) (λ z. cc)))
step_keeps i s after (Napped at) g = plain i _ s g (λ y. refl) refl (λ y. cc) (λ y. cc) (λ y. cc)
step_keeps i s after (Caught at free) g =
    kept i _ s _ _ _ _ g (λ y. one_stays (has_watch s.due) i _ s.phase (g.watch y) (λ z. refl)) refl (λ y z. inl (y, z)) (λ y. cc) (λ y. cc) (λ y. one_here holds i _ s.phase refl)
step_keeps i s after (Marked at) g =
    kept i _ s _ _ _ _ g (λ y. one_stays (has_watch _) i _ s.phase (due_stays s.due _ s.phase (λ z. cc) (g.watch y)) (λ z. refl)) refl (λ y z. inl (y, z)) (λ y. cc) (λ y. cc) (λ y. one_stays holds i _ s.phase (g.holder y) (λ z. refl))
step_keeps i s after (Gave at) g =
    kept i _ s _ _ _ _ g (λ y. one_stays (has_watch s.due) i _ s.phase (g.watch y) (λ z. ap (has_watch s.due) (sym at) ∙ z)) refl (λ y z. inl (y, z)) (λ y. cc) (λ y. cc) (λ y. cc)
step_keeps i s after (Asked at) g =
    by i _ _ s.phase _ _ _ _ s.due
    (λ on. plain i _ s g (λ y. refl) refl (λ y. cc) (λ y. cc) (λ y. cc))
    (λ off. plain i _ s g (λ y. (let due : s.due ≡ true = ap (has_watch s.due) (sym at) ∙ y in cc)) refl (λ y. cc) (λ y. cc) (λ y. cc))
step_keeps i s after (Swapped at) g =
    by i _ _ s.phase _ _ _ _ s.sleeps
    (λ on. kept i _ s _ _ _ _ g (λ y. cc) refl (λ y z. inr (one_here is_waking i _ s.phase refl)) (λ y. cc) (λ y. cc) (λ y. one_stays holds i _ s.phase (g.holder y) (λ z. cc)))
    (λ off. kept i _ s _ _ _ _ g (λ y. cc) refl (λ y z. cc) (λ y. cc) (λ y. cc) (λ y. one_stays holds i _ s.phase (g.holder y) (λ z. cc)))
step_keeps i s after (Woke j at sleeper) g = woke i j s at sleeper g
step_keeps i s after (WokeNobody at none) g = woke_nobody i s at none g

pub reached_well : (s : State) → IsReached s → Well s
reached_well s Opened = record { watch = λ y. cc; sure = λ k. refl; cared = λ k asleep. cc; holder = λ y. cc }
reached_well s (Stepped i before after r step) = step_keeps i before s step (reached_well before r)

pub no_wake_lost : (s : State) (j : ℕ) → IsReached s → s.phase j ≡ Sleeps → IsWakeComing s
no_wake_lost s j r asleep = of (g.cared j asleep)
  where
    g : Well s
    g = reached_well s r

    of : Cared s.watched s.sleeps s.phase → IsWakeComing s
    of (inl y) = inl (record { said = y.0; told = y.1; by = g.watch y.0 })
    of (inr y) = inr y
