-- What sums say of a path.
use Rattle.std.specs.Prelude.{◌≡◌, ◌==◌, ℕ, ◌-◌, ◌<◌, ◌≤◌, ◌++◌, Bool, List, length, map, filter, replicate, slice_index_or, Option, None}
use Rattle.std.specs.List.{AllByRecursion, range_with_len}
use Rattle.esx_types.specs.declared.config.TheConstants.{MAX_NODES, VM_NUMBERS}
use Rattle.esx_types.specs.declared.config.Config.{Config}
use Rattle.esx_events.specs.declared.call.Sum.{Sum}
use Rattle.esx_events.specs.declared.event.Event.{Event}
use Rattle.esx_events.specs.declared.event.Answer.{Answer}
use Rattle.esx_model.specs.declared.scene.Site.{Site}
use Rattle.esx_story.specs.Moments.{Moment}
use Rattle.esx_story.specs.Losses.{lost_at}
use Rattle.esx_story.specs.Gains.{gained_at}
use Rattle.esx_sums.specs.declared.present.Present.{Present}
use Rattle.esx_sums.specs.declared.sums.Changes.{Changes}
use Rattle.esx_sums.specs.declared.tally.Over.{Over}
use Rattle.esx_sums.specs.Lives.{lives, end_of}
use Rattle.esx_story.specs.Waits.{Met}
use Rattle.esx_sums.specs.Mets.{refused_with}
use Rattle.esx_sums.specs.Moving.{moved_at, host_at}
use Rattle.esx_sums.specs.Guests.{tally}
use Rattle.esx_sums.specs.Site.{IsSiteSums, levels, free_in, private_in, shared_in}
use Rattle.esx_sums.specs.Sums.{Sums, REFUSALS, tally_in, all_present}
use Rattle.esx_sums.specs.Few.{AreSmallSums}

-- a life that is over is of machine n
abbrev pub is_over_of : ℕ → Over → Bool
is_over_of n o = o.vm == n

-- its life l
abbrev pub over : ℕ → List Moment → List Met → ℕ → Over
over n ms mets l = record { vm = n; tally = tally n l ms mets }

-- The sums are of a path on which these events were refused.
pub record IsSums (c : Config) (ms : List Moment) (mets : List Met) (s : Sums) : Type 0 where
  pub site : IsSiteSums c ms s.site
  pub level : s.level ≡ (end_of c ms).level
  pub levels : s.levels ≡ levels ms
  pub now : (n : ℕ) → n < VM_NUMBERS → tally_in s.now n ≡ tally n (lives n ms) ms mets
  pub numbers : length s.now ≡ VM_NUMBERS
  pub past : (n : ℕ) → n < VM_NUMBERS → filter (is_over_of n) s.past ≡ map (over n ms mets) (range_with_len 1 (lives n ms - 1))
  pub refused : (k : ℕ) → slice_index_or s.refused k 0 ≡ refused_with k mets
  pub kinds : length s.refused ≡ REFUSALS
  pub early : AllByRecursion (λ (m : Met). m.at ≤ length ms) mets
  pub small : AreSmallSums s

-- what is told of the machines that stand, at their numbers; no machine stands behind the last that is told
abbrev pub AreAll : List (Option Present) → Site → Type 0
AreAll present s = present ++ replicate (VM_NUMBERS - length present) None ≡ all_present s

-- A moment that comes, with what it changed, and what stands after it.
pub record IsNext (c : Config) (ms : List Moment) (x : Moment) (event : Event) (answer : Answer) (changes : Changes) (sum : Sum) (present : List (Option Present)) : Type 0 where
  pub before : x.before ≡ end_of c ms
  pub made : x.event ≡ event
  pub told : x.answer ≡ answer
  pub lost : lost_at x ≡ changes.lost
  pub gained : gained_at x ≡ changes.gained
  pub moved : moved_at x ≡ changes.moved
  pub host : host_at x ≡ changes.host
  pub level : sum.level ≡ x.after.level
  pub free : sum.free ≡ free_in c x.after
  pub private : sum.private ≡ private_in c x.after
  pub shared : sum.shared ≡ shared_in c x.after
  pub stands : AreAll present x.after.site

-- The sums are of a path that may go on.
pub record IsShort (s : Sums) : Type 0 where
  pub config : Config
  pub moments : List Moment
  pub mets : List Met
  pub sums : IsSums config moments mets s
  pub short : length moments < MAX_NODES

-- The sums are of a path on which one more event may be refused.
pub record IsPatient (s : Sums) : Type 0 where
  pub config : Config
  pub moments : List Moment
  pub mets : List Met
  pub sums : IsSums config moments mets s
  pub few : length mets < 4294967295
