-- What is counted of each life of each machine.
use Rattle.std.specs.Prelude.{ℕ, ◌==◌, max, nat_lt, Bool, true, false, List, [], ◌∷◌, count_by, sum_by, Option, Some, None}
use Rattle.esx_events.specs.declared.event.Event.{Event}
use Rattle.esx_events.specs.declared.event.Event.TheVariants.{Read, Write}
use Rattle.esx_model.specs.declared.scene.Vm.{Vm}
use Rattle.esx_model.specs.Site.{vm_at, resident}
use Rattle.esx_story.specs.Changes.{resident_of}
use Rattle.esx_story.specs.Counts.{counts}
use Rattle.esx_story.specs.Moments.{Moment}
use Rattle.esx_sums.specs.declared.tally.Accesses.{Accesses}
use Rattle.esx_sums.specs.declared.tally.Moves.{Moves}
use Rattle.esx_sums.specs.declared.tally.Stay.{Stay}
use Rattle.esx_sums.specs.declared.tally.Tally.{Tally}
use Rattle.esx_sums.specs.Lives.{lived}
use Rattle.esx_story.specs.Waits.{Met}
use Rattle.esx_sums.specs.Mets.{is_held, is_short, met_in}
use Rattle.esx_sums.specs.Moving.{moved_at, is_so, is_share, is_cow, is_own, host_at, is_vm}

abbrev pub is_read : ℕ → Event → Bool
is_read n (Read m page at len) = m == n
is_read n _ = false

abbrev pub is_write : ℕ → Event → Bool
is_write n (Write m page at new) = m == n
is_write n _ = false

-- of these moments, with so many refused accesses
abbrev pub accesses_of : ℕ → List Moment → ℕ → ℕ → Accesses
accesses_of n xs held short = record {
  reads = count_by (λ (x : Moment). is_read n x.event) xs;
  writes = count_by (λ (x : Moment). is_write n x.event) xs;
  held = held;
  short = short;
}

abbrev pub moves_of : ℕ → List Moment → Moves
moves_of n xs = record {
  share = count_by (λ (x : Moment). is_so n is_share (moved_at x)) xs;
  host = count_by (λ (x : Moment). is_vm n (host_at x)) xs;
  cow = count_by (λ (x : Moment). is_so n is_cow (moved_at x)) xs;
  own = count_by (λ (x : Moment). is_so n is_own (moved_at x)) xs;
}

abbrev pub is_there : Option Vm → Bool
is_there None = false
is_there (Some v) = true

-- it has more pages in frames than its target, or fewer
abbrev pub is_above : Option Vm → Bool
is_above None = false
is_above (Some v) = nat_lt v.target (resident v)

abbrev pub is_below : Option Vm → Bool
is_below None = false
is_below (Some v) = nat_lt (resident v) v.target

-- the pages that machine n has in frames after a moment
abbrev pub here_after : ℕ → Moment → ℕ
here_after n x = resident_of x.after.site n

-- the most of some numbers
abbrev pub most_by : (Moment → ℕ) → List Moment → ℕ
most_by f [] = 0
most_by f (x ∷ xs) = max (f x) (most_by f xs)

abbrev pub stay_of : ℕ → List Moment → Stay
stay_of n xs = record {
  events = count_by (λ (x : Moment). is_there (vm_at x.after.site n)) xs;
  above = count_by (λ (x : Moment). is_above (vm_at x.after.site n)) xs;
  below = count_by (λ (x : Moment). is_below (vm_at x.after.site n)) xs;
  sum_here = sum_by (here_after n) xs;
  most = most_by (here_after n) xs;
}

abbrev pub tally_of : ℕ → ℕ → List Moment → ℕ → ℕ → Tally
tally_of n l xs held short = record { life = l; accesses = accesses_of n xs held short; counts = counts n xs; moves = moves_of n xs; stay = stay_of n xs }

-- life l of machine n on a path on which these events were refused
abbrev pub tally : ℕ → ℕ → List Moment → List Met → Tally
tally n l ms mets = tally_of n l (lived n l ms) (met_in is_held n l ms mets) (met_in is_short n l ms mets)
