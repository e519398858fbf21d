-- How much was counted, at most.
use Rattle.std.specs.Prelude.{ℕ, ◌+◌, ◌<◌, ◌≤◌, ◌*◌, List, length, Option, Some, None}
use Rattle.std.specs.List.{AllByRecursion}
use Rattle.esx_types.specs.declared.config.TheConstants.{MAX_NODES, MAX_PAGES, VM_NUMBERS}
use Rattle.esx_story.specs.Counts.{came_in, lost_in}
use Rattle.esx_sums.specs.declared.present.Present.{Present}
use Rattle.esx_sums.specs.declared.site.SiteSums.{SiteSums}
use Rattle.esx_sums.specs.declared.level.LevelSums.{LevelSums}
use Rattle.esx_sums.specs.declared.level.Levels.{Levels}
use Rattle.esx_sums.specs.declared.tally.Accesses.{Accesses}
use Rattle.esx_sums.specs.declared.tally.Moves.{Moves}
use Rattle.esx_sums.specs.declared.tally.Stay.{Stay}
use Rattle.esx_sums.specs.declared.tally.Tally.{Tally}
use Rattle.esx_sums.specs.Sums.{Sums, tally_in}

pub record AreFewAccesses (k : ℕ) (a : Accesses) : Type 0 where
  pub reads : a.reads ≤ k
  pub writes : a.writes ≤ k

pub record AreFewWaits (k : ℕ) (a : Accesses) : Type 0 where
  pub held : a.held ≤ k
  pub short : a.short ≤ k

pub record AreFewMoves (k : ℕ) (m : Moves) : Type 0 where
  pub share : m.share ≤ k
  pub host : m.host ≤ k
  pub cow : m.cow ≤ k
  pub own : m.own ≤ k

pub record IsShortStay (k : ℕ) (s : Stay) : Type 0 where
  pub events : s.events ≤ k
  pub above : s.above ≤ k
  pub below : s.below ≤ k
  pub sum_here : s.sum_here ≤ k * MAX_PAGES

pub record IsFew (k : ℕ) (t : Tally) : Type 0 where
  pub life : t.life ≤ k
  pub accesses : AreFewAccesses k t.accesses
  pub counts : came_in t.counts + lost_in t.counts ≤ k
  pub moves : AreFewMoves k t.moves
  pub stay : IsShortStay k t.stay

-- of the life under each number
abbrev pub AreFew : ℕ → List Tally → Type 0
AreFew k now = (n : ℕ) → IsFew k (tally_in now n)

abbrev pub AreFewHits : ℕ → List Tally → Type 0
AreFewHits k now = (n : ℕ) → AreFewWaits k (tally_in now n).accesses

-- A machine has no more pages than any may have.
abbrev pub IsSmall : Option Present → Type 0
IsSmall None = Unit {0}
IsSmall (Some p) = (p.here ≤ MAX_PAGES) × (p.out ≤ MAX_PAGES)

pub record AreSmall (present : List (Option Present)) : Type 0 where
  pub count : length present ≤ VM_NUMBERS
  pub each : AllByRecursion IsSmall present

pub record IsShortSite (s : SiteSums) : Type 0 where
  pub events : s.events < MAX_NODES
  pub rebalances : s.rebalances < MAX_NODES
  pub saved_sum : s.saved_sum ≤ MAX_NODES * (VM_NUMBERS * MAX_PAGES)
  pub revoked : s.revoked ≤ MAX_NODES * 4294967295

pub record IsShortLevel (s : LevelSums) : Type 0 where
  pub events : s.events < MAX_NODES
  pub entered : s.entered < MAX_NODES

pub record AreShortLevels (s : Levels) : Type 0 where
  pub high : IsShortLevel s.high
  pub soft : IsShortLevel s.soft
  pub hard : IsShortLevel s.hard
  pub low : IsShortLevel s.low

-- What is summed up of numbers is no more than the events allow.
pub record AreSmallSums (s : Sums) : Type 0 where
  pub saved : s.site.saved_sum ≤ s.site.events * (VM_NUMBERS * MAX_PAGES)
  pub revoked : s.site.revoked ≤ s.site.events * 4294967295
  pub here : (n : ℕ) → (tally_in s.now n).stay.sum_here ≤ s.site.events * MAX_PAGES
