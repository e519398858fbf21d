-- What questions read from the tables.
use Rattle.std.specs.Prelude.{◌≡◌, ℕ, ◌+◌, Bool, ◌&&◌, ◌==◌, nat_le, List, [], ◌∷◌, length, Option, Some, None, option_map, slice_index_or, count_by, sum_by, if◌then◌else◌, Result, Ok, Err}
use Rattle.std.specs.List.{list_any}
use Rattle.esx_events.specs.declared.event.Refusal.{Refusal}
use Rattle.esx_events.specs.declared.event.Refusal.TheVariants.{NoVm, OutOfRange}
use Rattle.esx_types.specs.declared.table.FrameRow.{FrameRow}
use Rattle.esx_types.specs.declared.table.FrameRow.TheVariants.{Free, Overhead, Private, Shared}
use Rattle.esx_types.specs.declared.table.MapRow.{MapRow}
use Rattle.esx_types.specs.declared.table.MapRow.TheVariants as maps
use Rattle.esx_types.specs.declared.level.Level.{Level}
use Rattle.esx_events.specs.declared.call.Sum.{Sum}
use Rattle.esx_events.specs.declared.call.Activity.{Activity}
use Rattle.esx_events.specs.declared.call.TableRow.{TableRow}
use Rattle.esx_events.specs.declared.call.PageState.{PageState}
use Rattle.esx_events.specs.declared.call.PageState.TheVariants as states
use Rattle.esx_types.specs.Frames.{is_overhead, is_private, is_shared, is_free, frame_at}
use Rattle.esx_types.specs.Pages.{page_at, resident_count, out_count, lent_count}
use Rattle.esx_model.specs.declared.book.Book.{Book}
use Rattle.esx_model.specs.declared.book.VmRow.{VmRow}
use Rattle.esx_model.specs.declared.book.PeriodRow.{PeriodRow}
use Rattle.esx_formulas.specs.declared.activity.Estimate.{Estimate}
use Rattle.esx_formulas.specs.Average.{active_share}

-- how many frames are of each kind, and the level
unfoldable pub sum_of : Book → Sum
sum_of b = record {
  overhead = count_by is_overhead b.frames;
  private = count_by is_private b.frames;
  shared = count_by is_shared b.frames;
  free = count_by is_free b.frames;
  level = b.level;
}

-- the frames of all kinds are so many
abbrev pub AddUpTo : ℕ → Sum → Type 0
AddUpTo frames s = s.overhead + s.private + s.shared + s.free ≡ frames

-- some hint names the page
abbrev pub is_hint : Book → ℕ → ℕ → Bool
is_hint b n page = list_any (λ h. (h.vm == n) && (h.page == page)) b.hints

-- a page in a frame
abbrev pub state_in : Bool → ℕ → FrameRow → PageState
state_in hinted f (Private bytes) = if hinted then states.Hinted f else states.Private f
state_in hinted f (Shared count bytes) = states.Shared f count
state_in hinted f Free = states.Untouched
state_in hinted f Overhead = states.Untouched

abbrev pub state_at : Book → ℕ → ℕ → MapRow → PageState
state_at b n page maps.Untouched = states.Untouched
state_at b n page (maps.Here f) = state_in (is_hint b n page) f (frame_at b.frames f)
state_at b n page (maps.Out slot) = states.Out slot
state_at b n page (maps.Lent epoch) = states.Lent

abbrev pub page_in : Book → ℕ → ℕ → Option VmRow → Result PageState Refusal
page_in b n page None = Err NoVm
page_in b n page (Some v) = if nat_le v.spec.max page then Err OutOfRange else Ok (state_at b n page (page_at v.pages page))

-- where a page is, or why there is no such page
unfoldable pub page_state : Book → ℕ → ℕ → Result PageState Refusal
page_state b n page = page_in b n page (slice_index_or b.vms n None)

-- what an open period tells so far
abbrev pub period_so_far : PeriodRow → Estimate
period_so_far p = record { touched = count_by (λ m. m.touched) p.marks; pages = length p.marks }

-- the active share of a machine's memory
abbrev pub active_now : VmRow → ℕ
active_now v = active_share v.slow v.fast (option_map period_so_far v.period)

abbrev pub activity_in : VmRow → Option PeriodRow → Activity
activity_in v None = record { slow = v.slow; fast = v.fast; active = active_now v; done = 0; length = 0; touched = 0; pages = 0 }
activity_in v (Some p) = record { slow = v.slow; fast = v.fast; active = active_now v; done = p.done; length = p.length; touched = (period_so_far p).touched; pages = (period_so_far p).pages }

abbrev pub activity_of : Option VmRow → Result Activity Refusal
activity_of None = Err NoVm
activity_of (Some v) = Ok (activity_in v v.period)

-- a machine's averages and open period, or that there is no such machine
unfoldable pub activity : Book → ℕ → Result Activity Refusal
activity b n = activity_of (slice_index_or b.vms n None)

-- how many pages of a machine are in frames
abbrev pub here_count : Option VmRow → ℕ
here_count None = 0
here_count (Some v) = resident_count v.pages

-- a machine's line of the table
abbrev pub table_row : ℕ → VmRow → TableRow
table_row n v = record {
  vm = n;
  state = v.state;
  min = v.spec.min;
  max = v.spec.max;
  target = v.target;
  here = resident_count v.pages;
  lent = lent_count v.epoch v.pages;
  out = out_count v.pages;
  shares = v.spec.shares;
  active = active_now v;
}

abbrev pub table_from : ℕ → List (Option VmRow) → List TableRow
table_from n [] = []
table_from n (None ∷ vms) = table_from (n + 1) vms
table_from n (Some v ∷ vms) = table_row n v ∷ table_from (n + 1) vms

-- a line for each machine, in order of number
unfoldable pub table_of : Book → List TableRow
table_of b = table_from 0 b.vms

-- What can be told of a machine without its lock: the free frames and the level.
pub record Gauge : Type 0 where
  pub free : ℕ
  pub level : Level

abbrev pub gauge_of : Book → Gauge
gauge_of b = record { free = count_by is_free b.frames; level = b.level }

-- what may still be reclaimed: pages in frames, and frames that hold pages
abbrev pub debt : Book → ℕ
debt b = sum_by here_count b.vms + count_by is_private b.frames + count_by is_shared b.frames
