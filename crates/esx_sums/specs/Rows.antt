-- The rows of the table of guests.
use Rattle.std.specs.Prelude.{ℕ, ◌==◌, nat_lt, List, [], ◌∷◌, ◌++◌, map, filter, slice_index_or, Option, None, option_map, if◌then◌else◌}
use Rattle.std.specs.List.{flat_map, range_with_len}
use Rattle.esx_types.specs.declared.config.TheConstants.{VM_NUMBERS}
use Rattle.esx_types.specs.declared.config.Config.{Config}
use Rattle.esx_model.specs.Site.{vm_at}
use Rattle.esx_story.specs.declared.story.Loss.{Loss}
use Rattle.esx_story.specs.Moments.{Moment}
use Rattle.esx_sums.specs.declared.guest.Guest.{Guest}
use Rattle.esx_sums.specs.declared.losses.Returns.{Returns}
use Rattle.esx_sums.specs.declared.present.Present.{Present}
use Rattle.esx_sums.specs.declared.tally.Tally.{Tally}
use Rattle.esx_sums.specs.declared.tally.Over.{Over}
use Rattle.esx_sums.specs.Accounts.{is_over_of}
use Rattle.esx_sums.specs.Guests.{tally}
use Rattle.esx_sums.specs.Lives.{lives, end_of}
use Rattle.esx_sums.specs.Losses.{came_back}
use Rattle.esx_story.specs.Waits.{Met}
use Rattle.esx_sums.specs.Sums.{tally_in, present_of, here_of}

-- the row of a life, with what is told of its machine where it stands at the end, and what came of its losses
abbrev pub row_of : ℕ → Tally → Option Present → Returns → Guest
row_of n t p r = record {
  vm = n;
  life = t.life;
  reads = t.accesses.reads;
  writes = t.accesses.writes;
  counts = t.counts;
  share = t.moves.share;
  host = t.moves.host;
  cow = t.moves.cow;
  own = t.moves.own;
  back = r.back;
  soon = r.soon;
  waits = r.waits;
  held = t.accesses.held;
  short = t.accesses.short;
  above = t.stay.above;
  below = t.stay.below;
  events = t.stay.events;
  sum_here = t.stay.sum_here;
  most = t.stay.most;
  here = here_of p;
  target = option_map (λ (x : Present). x.target) p;
}

-- what stands of life l of machine n at the end of a path: nothing, where another life followed
abbrev pub stands_at : Config → List Moment → ℕ → ℕ → Option Present
stands_at c ms n l = if l == lives n ms then option_map present_of (vm_at (end_of c ms).site n) else None

-- the row of life l of machine n
abbrev pub guest : Config → List Moment → List Met → List Loss → ℕ → ℕ → Guest
guest c ms mets losses n l = row_of n (tally n l ms mets) (stands_at c ms n l) (came_back n l losses)

-- those of a machine
abbrev pub guests_of : Config → List Moment → List Met → List Loss → ℕ → List Guest
guests_of c ms mets losses n = map (guest c ms mets losses n) (range_with_len 1 (lives n ms))

-- what is made of each number below another, in order
unfoldable pub of_each : (ℕ → List Guest) → ℕ → List Guest
of_each f k = flat_map f (range_with_len 0 k)

-- those of all machines, in order of number, and of each in order of its lives
abbrev pub guests : Config → List Moment → List Met → List Loss → List Guest
guests c ms mets losses = of_each (guests_of c ms mets losses) VM_NUMBERS

-- How they are made.

abbrev pub over_row : List Loss → Over → Guest
over_row losses o = row_of o.vm o.tally None (came_back o.vm o.tally.life losses)

abbrev pub own_rows : ℕ → List Loss → Over → List Guest
own_rows n losses o = if o.vm == n then over_row losses o ∷ [] else []

abbrev pub last_rows : ℕ → Tally → Option Present → List Loss → List Guest
last_rows n t p losses = if nat_lt 0 t.life then row_of n t p (came_back n t.life losses) ∷ [] else []

abbrev pub machine_rows : List Tally → List Over → List (Option Present) → List Loss → ℕ → List Guest
machine_rows now past present losses n = map (over_row losses) (filter (is_over_of n) past) ++ last_rows n (tally_in now n) (slice_index_or present n None) losses
