-- Waiting for the lock, one step on a shared number after another, by any number of threads.
use Rattle.std.specs.Prelude.{◌≡◌, ◌≢◌, ℕ, ◌==◌, Bool, true, false, if◌then◌else◌}

-- What a thread does next.
pub data Phase : Type 0 where
  -- it wants nothing
  Out : Phase
  -- it is about to try to take the lock
  Comes : Phase
  -- it found the lock held, and is about to take the watch
  Found : Phase
  -- somebody watches, and it is about to say that somebody sleeps
  Tells : Phase
  -- it is about to fall asleep, while the bits watched, sleeps and due are these
  Parks : Bool → Bool → Bool → Phase
  -- it sleeps
  Sleeps : Phase
  -- it was woken, or was not let to sleep
  Woken : Phase
  -- it looks at the lock and naps by turns
  Watches : Phase
  -- it watched and has the lock now, and is about to say that the watch is due
  Marks : Phase
  -- it has the lock
  Holds : Phase
  -- it has given the lock back, and is about to look whether the watch is due
  Gives : Phase
  -- it is, and it is about to clear the bits
  Swaps : Phase
  -- it found that somebody sleeps, and is about to wake one
  Wakes : Phase

-- The bits that all threads see, whether the lock is held, and what each thread does next.
pub record State : Type 0 where
  pub watched : Bool
  pub sleeps : Bool
  pub due : Bool
  pub held : Bool
  pub phase : ℕ → Phase

-- nobody wants anything
abbrev pub nobody : State
nobody = record { watched = false; sleeps = false; due = false; held = false; phase = λ k. Out }

-- one thread in another phase, and all others as before
abbrev pub moved : ℕ → Phase → (ℕ → Phase) → ℕ → Phase
moved i p phase k = if k == i then p else phase k

-- the state in which one thread has gone to another phase
abbrev pub goes : ℕ → Phase → State → State
goes i p s = record s { phase = moved i p s.phase }

-- What thread i may do in a state, in one step.
pub data IsStep (i : ℕ) (s : State) : State → Type 0 where
  -- it comes for the lock
  Came : s.phase i ≡ Out → IsStep i s (goes i Comes s)
  -- it takes the lock where nobody holds it
  Tried : s.phase i ≡ Comes → IsStep i s (goes i (if s.held then Found else Holds) (record s { held = true }))
  -- or it does not wait for it
  GaveUp : s.phase i ≡ Comes → IsStep i s (goes i Out s)
  -- it reads and sets watched in one step, and watches where nobody did
  Looked : s.phase i ≡ Found → IsStep i s (goes i (if s.watched then Tells else Watches) (record s { watched = true }))
  -- it says that somebody sleeps, and is to sleep while the bits are as it left them, where somebody watches still
  Told : s.phase i ≡ Tells → IsStep i s (goes i (if s.watched then Parks s.watched true s.due else Comes) (record s { sleeps = true }))
  -- it falls asleep where the bits are these
  FellAsleep : (watched sleeps due : Bool) → s.phase i ≡ Parks watched sleeps due → s.watched ≡ watched → s.sleeps ≡ sleeps → s.due ≡ due → IsStep i s (goes i Sleeps s)
  -- or it does not, for whatever reason
  StayedUp : (watched sleeps due : Bool) → s.phase i ≡ Parks watched sleeps due → IsStep i s (goes i Woken s)
  -- it wakes for no reason
  WokeUp : s.phase i ≡ Sleeps → IsStep i s (goes i Woken s)
  -- it reads and sets watched in one step, with sleeps for those who sleep still, and watches where nobody did
  TookOver : s.phase i ≡ Woken → IsStep i s (goes i (if s.watched then Comes else Watches) (record s { watched = true; sleeps = true }))
  -- it looks, or naps
  Napped : s.phase i ≡ Watches → IsStep i s (goes i Watches s)
  -- who watches takes the lock
  Caught : s.phase i ≡ Watches → s.held ≡ false → IsStep i s (goes i Marks (record s { held = true }))
  -- and says that the watch is due
  Marked : s.phase i ≡ Marks → IsStep i s (goes i Holds (record s { due = true }))
  -- it gives the lock back
  Gave : s.phase i ≡ Holds → IsStep i s (goes i Gives (record s { held = false }))
  -- it looks whether the watch is due
  Asked : s.phase i ≡ Gives → IsStep i s (goes i (if s.due then Swaps else Out) s)
  -- it reads and clears all bits in one step, and is to wake one where somebody sleeps
  Swapped : s.phase i ≡ Swaps → IsStep i s (goes i (if s.sleeps then Wakes else Out) (record s { watched = false; sleeps = false; due = false }))
  -- it wakes one that sleeps
  Woke : (j : ℕ) → s.phase i ≡ Wakes → s.phase j ≡ Sleeps → IsStep i s (goes j Woken (goes i Out s))
  -- or nobody, where nobody sleeps
  WokeNobody : s.phase i ≡ Wakes → ((j : ℕ) → s.phase j ≢ Sleeps) → IsStep i s (goes i Out s)

-- steps of any threads, one after another, lead there from where nobody wants anything
pub data IsReached : State → Type 0 where
  Opened : IsReached nobody
  Stepped : (i : ℕ) (s after : State) → IsReached s → IsStep i s after → IsReached after

-- steps of threads that are awake lead from a state to another
pub data LeadsTo : State → State → Type 0 where
  Stays : (s : State) → LeadsTo s s
  Steps : (i : ℕ) (s t after : State) → s.phase i ≢ Sleeps → IsStep i s t → LeadsTo t after → LeadsTo s after
