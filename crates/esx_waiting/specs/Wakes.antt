-- No wake is lost.
use Rattle.std.specs.Prelude.{◌≡◌, ℕ, Bool, true, false, ◌⊎◌}
use Rattle.esx_waiting.specs.Waiting.{Phase, Sleeps, Woken, Watches, Marks, Holds, Gives, Swaps, Wakes, State, IsReached, LeadsTo}

-- Does a thread watch, or is it about to give the watch on? Who holds the lock or has given it back is, where the watch is due.
abbrev pub has_watch : Bool → Phase → Bool
has_watch due Watches = true
has_watch due Marks = true
has_watch due Holds = due
has_watch due Gives = due
has_watch due Swaps = true
has_watch due _ = false

-- Is a thread about to wake one, or was it woken itself, and is to say that others sleep?
abbrev pub is_waking : Phase → Bool
is_waking Wakes = true
is_waking Woken = true
is_waking _ = false

-- some thread's phase passes a test
abbrev pub SomeThread : (Phase → Bool) → (ℕ → Phase) → Type 0
SomeThread test phase = (k : ℕ) × (test (phase k) ≡ true)

-- it is said that somebody watches and that somebody sleeps, and some thread has the watch
pub record IsWatched (s : State) : Type 0 where
  pub said : s.watched ≡ true
  pub told : s.sleeps ≡ true
  pub by : SomeThread (has_watch s.due) s.phase

-- a wake depends on the next steps of a thread that is awake
abbrev pub IsWakeComing : State → Type 0
IsWakeComing s = IsWatched s ⊎ SomeThread is_waking s.phase

-- while anybody sleeps a wake is coming
abbrev pub IsNoWakeLost : Type 0
IsNoWakeLost = (s : State) (j : ℕ) → IsReached s → s.phase j ≡ Sleeps → IsWakeComing s

-- each that sleeps may be woken by steps of those that are awake
abbrev pub CanEachSleeperBeWoken : Type 0
CanEachSleeperBeWoken = (s : State) (j : ℕ) → IsReached s → s.phase j ≡ Sleeps → (after : State) × LeadsTo s after × (after.phase j ≡ Woken)

-- steps lead to a state in which somebody sleeps
abbrev pub DoThreadsSleep : Type 0
DoThreadsSleep = (s : State) × (j : ℕ) × IsReached s × (s.phase j ≡ Sleeps)
