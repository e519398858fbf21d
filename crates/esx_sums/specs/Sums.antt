-- What is kept of the path so far, and how it goes on with one more event.
use Rattle.std.specs.Prelude.{ℕ, ◌+◌, ◌-◌, ◌&&◌, not, max, nat_lt, Bool, List, [], ◌∷◌, ◌++◌, map, sum_by, replicate, slice_index_or, slice_set, Option, Some, None, option_map, if◌then◌else◌}
use Rattle.esx_types.specs.declared.config.TheConstants.{VM_NUMBERS}
use Rattle.esx_types.specs.declared.level.Level.{Level}
use Rattle.esx_types.specs.declared.level.Level.TheVariants.{High, Soft, Hard, Low}
use Rattle.esx_events.specs.declared.call.Sum.{Sum}
use Rattle.esx_events.specs.declared.event.Event.{Event}
use Rattle.esx_events.specs.declared.event.Event.TheVariants.{Admit, Read, Write}
use Rattle.esx_events.specs.declared.event.Answer.{Answer}
use Rattle.esx_events.specs.declared.event.Refusal.{Refusal}
use Rattle.esx_events.specs.Numbers.{refusal_number}
use Rattle.esx_model.specs.declared.scene.Vm.{Vm}
use Rattle.esx_model.specs.declared.scene.Site.{Site}
use Rattle.esx_model.specs.Site.{resident, paged_out}
use Rattle.esx_story.specs.declared.change.How.{How}
use Rattle.esx_story.specs.declared.change.How.TheVariants.{Share, Cow, Own}
use Rattle.esx_story.specs.declared.change.Change.{Change}
use Rattle.esx_story.specs.Counts.{no_counts, with_change}
use Rattle.esx_story.specs.Spans.{is_rebalance}
use Rattle.esx_sums.specs.declared.level.LevelSums.{LevelSums}
use Rattle.esx_sums.specs.declared.level.Levels.{Levels}
use Rattle.esx_sums.specs.declared.present.Present.{Present}
use Rattle.esx_sums.specs.declared.site.SiteSums.{SiteSums}
use Rattle.esx_sums.specs.declared.sums.Changes.{Changes}
use Rattle.esx_sums.specs.declared.tally.Accesses.{Accesses}
use Rattle.esx_sums.specs.declared.tally.Moves.{Moves}
use Rattle.esx_sums.specs.declared.tally.Stay.{Stay}
use Rattle.esx_sums.specs.declared.tally.Tally.{Tally}
use Rattle.esx_sums.specs.declared.tally.Over.{Over}
use Rattle.esx_sums.specs.Extremes.{lower, higher}
use Rattle.esx_sums.specs.Mets.{is_held, is_short}
use Rattle.esx_sums.specs.Site.{is_level, revoked_by}

-- The present life under each machine's number, those that are over, the levels, the site, the level that stands, and the refusals by number.
pub record Sums : Type 0 where
  pub now : List Tally
  pub past : List Over
  pub levels : Levels
  pub site : SiteSums
  pub level : Level
  pub refused : List ℕ

-- one more where it is so
abbrev pub one_if : Bool → ℕ
one_if is = if is then 1 else 0

-- Tallies.

abbrev pub no_accesses : Accesses
no_accesses = record { reads = 0; writes = 0; held = 0; short = 0 }

abbrev pub no_moves : Moves
no_moves = record { share = 0; host = 0; cow = 0; own = 0 }

abbrev pub no_stay : Stay
no_stay = record { events = 0; above = 0; below = 0; sum_here = 0; most = 0 }

abbrev pub blank : ℕ → Tally
blank life = record { life = life; accesses = no_accesses; counts = no_counts; moves = no_moves; stay = no_stay }

abbrev pub tally_in : List Tally → ℕ → Tally
tally_in now n = slice_index_or now n (blank 0)

abbrev pub with_access : Accesses → Event → Accesses
with_access a (Read m page at len) = record a { reads = a.reads + 1 }
with_access a (Write m page at new) = record a { writes = a.writes + 1 }
with_access a _ = a

abbrev pub with_move : Moves → How → Moves
with_move k Share = record k { share = k.share + 1 }
with_move k Cow = record k { cow = k.cow + 1 }
with_move k Own = record k { own = k.own + 1 }
with_move k _ = k

abbrev pub with_present : Stay → Present → Stay
with_present k p = record {
  events = k.events + 1;
  above = k.above + one_if (nat_lt p.target p.here);
  below = k.below + one_if (nat_lt p.here p.target);
  sum_here = k.sum_here + p.here;
  most = max k.most p.here;
}

-- an access counts for its machine
abbrev pub accessed_in : List Tally → Event → List Tally
accessed_in now (Read m page at len) = slice_set now m (record (tally_in now m) { accesses = with_access (tally_in now m).accesses (Read m page at len) })
accessed_in now (Write m page at new) = slice_set now m (record (tally_in now m) { accesses = with_access (tally_in now m).accesses (Write m page at new) })
accessed_in now _ = now

-- so does a page that came or left, and one that moved
abbrev pub counted_in : List Tally → Option Change → List Tally
counted_in now None = now
counted_in now (Some y) = slice_set now y.vm (record (tally_in now y.vm) { counts = with_change (tally_in now y.vm).counts y.how })

abbrev pub moved_in : List Tally → Option Change → List Tally
moved_in now None = now
moved_in now (Some y) = slice_set now y.vm (record (tally_in now y.vm) { moves = with_move (tally_in now y.vm).moves y.how })

-- and one in whose frame another came
abbrev pub hosted_in : List Tally → Option ℕ → List Tally
hosted_in now None = now
hosted_in now (Some n) = slice_set now n (record (tally_in now n) { moves = record (tally_in now n).moves { host = (tally_in now n).moves.host + 1 } })

abbrev pub stay_by : Option Present → Stay → Stay
stay_by None k = k
stay_by (Some p) k = with_present k p

abbrev pub stayed : Tally → Option Present → Tally
stayed t o = record t { stay = stay_by o t.stay }

abbrev pub stood_at : List Tally → ℕ → Option Present → List Tally
stood_at now n None = now
stood_at now n (Some p) = slice_set now n (stayed (tally_in now n) (Some p))

-- each machine that stands has stood one event longer
abbrev pub stood_in : List Tally → List (Option Present) → List Tally
stood_in [] present = []
stood_in (t ∷ now) [] = t ∷ now
stood_in (t ∷ now) (o ∷ present) = stayed t o ∷ stood_in now present

-- an admission begins the next life
abbrev pub begun_in : List Tally → Event → List Tally
begun_in now (Admit n spec) = slice_set now n (blank ((tally_in now n).life + 1))
begun_in now _ = now

-- and the one before it is over
abbrev pub ended : List Over → ℕ → Tally → List Over
ended past n t = if nat_lt 0 t.life then past ++ record { vm = n; tally = t } ∷ [] else past

abbrev pub ended_in : List Over → List Tally → Event → List Over
ended_in past now (Admit n spec) = ended past n (tally_in now n)
ended_in past now _ = past

abbrev pub tallied : List Tally → Event → Changes → List (Option Present) → List Tally
tallied now e y present = stood_in (accessed_in (hosted_in (moved_in (counted_in (counted_in (begun_in now e) y.gained) y.lost) y.moved) y.host) e) present

-- The site.

-- a machine that stands
abbrev pub present_of : Vm → Present
present_of v = record { here = resident v; out = paged_out v; target = v.target }

-- those of a site, at their numbers
abbrev pub all_present : Site → List (Option Present)
all_present s = map (λ o. option_map present_of o) s.vms

abbrev pub here_of : Option Present → ℕ
here_of None = 0
here_of (Some p) = p.here

abbrev pub out_of : Option Present → ℕ
out_of None = 0
out_of (Some p) = p.out

abbrev pub saved_of : Sum → ℕ → ℕ
saved_of sum pages = pages - (sum.private + sum.shared)

abbrev pub site_after : SiteSums → Event → Answer → Sum → ℕ → ℕ → SiteSums
site_after s e answer sum pages out = record {
  events = s.events + 1;
  least_free = lower s.least_free (s.events + 1) sum.free;
  most_pages = higher s.most_pages (s.events + 1) pages;
  most_saved = higher s.most_saved (s.events + 1) (saved_of sum pages);
  most_slots = higher s.most_slots (s.events + 1) out;
  saved_sum = s.saved_sum + saved_of sum pages;
  rebalances = s.rebalances + one_if (is_rebalance e);
  revoked = s.revoked + revoked_by answer;
  free = sum.free;
  pages = pages;
  private = sum.private;
  shared = sum.shared;
  out = out;
}

-- of no event, in a site of so many frames
abbrev pub no_site : ℕ → SiteSums
no_site frames = record {
  events = 0;
  least_free = record { number = frames; event = 0 };
  most_pages = record { number = 0; event = 0 };
  most_saved = record { number = 0; event = 0 };
  most_slots = record { number = 0; event = 0 };
  saved_sum = 0;
  rebalances = 0;
  revoked = 0;
  free = frames;
  pages = 0;
  private = 0;
  shared = 0;
  out = 0;
}

-- Levels.

abbrev pub no_levels : Levels
no_levels = record {
  high = record { level = High; events = 0; entered = 0 };
  soft = record { level = Soft; events = 0; entered = 0 };
  hard = record { level = Hard; events = 0; entered = 0 };
  low = record { level = Low; events = 0; entered = 0 };
}

abbrev pub level_after : LevelSums → Level → Level → LevelSums
level_after s before after = record s {
  events = s.events + one_if (is_level s.level after);
  entered = s.entered + one_if (is_level s.level after && not (is_level s.level before));
}

abbrev pub levels_after : Levels → Level → Level → Levels
levels_after s before after = record {
  high = level_after s.high before after;
  soft = level_after s.soft before after;
  hard = level_after s.hard before after;
  low = level_after s.low before after;
}

-- The whole.

-- how many numbers refusals have, from 0 on
abbrev pub REFUSALS : ℕ
REFUSALS = 28

-- of no event
abbrev pub nothing : ℕ → Sums
nothing frames = record { now = replicate VM_NUMBERS (blank 0); past = []; levels = no_levels; site = no_site frames; level = High; refused = replicate REFUSALS 0 }

-- after one more event
abbrev pub gone_on : Sums → Event → Answer → Changes → Sum → List (Option Present) → Sums
gone_on s e answer y sum present = record {
  now = tallied s.now e y present;
  past = ended_in s.past s.now e;
  levels = levels_after s.levels s.level sum.level;
  site = site_after s.site e answer sum (sum_by here_of present) (sum_by out_of present);
  level = sum.level;
  refused = s.refused;
}

-- a refused access counts for its machine
abbrev pub refused_access : Accesses → Refusal → Accesses
refused_access a r = record a { held = a.held + one_if (is_held r); short = a.short + one_if (is_short r) }

abbrev pub refused_in : List Tally → Option (ℕ × ℕ) → Refusal → List Tally
refused_in now None r = now
refused_in now (Some p) r = slice_set now p.0 (record (tally_in now p.0) { accesses = refused_access (tally_in now p.0).accesses r })

-- after an event that was refused
abbrev pub refused : Sums → Option (ℕ × ℕ) → Refusal → Sums
refused s access r = record s {
  now = refused_in s.now access r;
  refused = slice_set s.refused (refusal_number r) (slice_index_or s.refused (refusal_number r) 0 + 1);
}
