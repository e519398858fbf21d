-- The tables that show a site.
use Rattle.std.specs.Prelude.{ℕ, ◌+◌, Bool, true, false, ◌==◌, List, [], ◌∷◌, length, map, Option, option_map, filter, if◌then◌else◌}
use Rattle.std.specs.List.{list_any, range_with_len}
use Rattle.esx_types.specs.declared.config.Config.{Config}
use Rattle.esx_types.specs.declared.level.Level.{Level}
use Rattle.esx_types.specs.declared.table.FrameRow.{FrameRow}
use Rattle.esx_types.specs.declared.table.FrameRow.TheVariants as frames
use Rattle.esx_types.specs.declared.table.MapRow.{MapRow}
use Rattle.esx_types.specs.declared.table.MapRow.TheVariants as maps
use Rattle.esx_types.specs.declared.table.SlotRow.{SlotRow}
use Rattle.esx_types.specs.declared.table.SlotRow.TheVariants as slots
use Rattle.esx_model.specs.declared.scene.Place.{Place}
use Rattle.esx_model.specs.declared.scene.Place.TheVariants.{Untouched, Here, Out, Lent}
use Rattle.esx_formulas.specs.declared.activity.Period.{Period}
use Rattle.esx_model.specs.declared.scene.Vm.{Vm}
use Rattle.esx_model.specs.declared.scene.Site.{Site}
use Rattle.esx_model.specs.declared.scene.Scene.{Scene}
use Rattle.esx_model.specs.declared.book.PeriodRow.{PeriodRow}
use Rattle.esx_model.specs.declared.book.VmRow.{VmRow}
use Rattle.esx_types.specs.declared.table.KeyRow.{KeyRow}
use Rattle.esx_types.specs.Listings.{with_placed}
use Rattle.esx_model.specs.declared.book.Book.{Book}
use Rattle.esx_formulas.specs.Average.{slow_average, fast_average, is_touched}
use Rattle.esx_formulas.specs.Key.{content_key}
use Rattle.esx_model.specs.Places.{is_here_at, is_out_at}
use Rattle.esx_model.specs.Site.{all_places, all_overhead}

-- what the pages in one frame make of it
abbrev pub row_of : List Place → FrameRow
row_of [] = frames.Free
row_of (Here bytes frame true ∷ ps) = frames.Shared (1 + length ps) bytes
row_of (Here bytes frame false ∷ ps) = frames.Private bytes
row_of (Untouched ∷ ps) = frames.Free
row_of (Out bytes slot ∷ ps) = frames.Free
row_of (Lent epoch ∷ ps) = frames.Free

-- the frame is among these
abbrev pub is_listed : ℕ → List ℕ → Bool
is_listed f frames = list_any (λ g. g == f) frames

-- those of some pages that are in one frame, and in one slot
abbrev pub in_frame : ℕ → List Place → List Place
in_frame f places = filter (is_here_at f) places

abbrev pub in_slot : ℕ → List Place → List Place
in_slot i places = filter (is_out_at i) places

abbrev pub pages_in : Site → ℕ → List Place
pages_in s f = in_frame f (all_places s)

abbrev pub pages_out : Site → ℕ → List Place
pages_out s i = in_slot i (all_places s)

-- overhead where a machine lists the frame, else what the pages in it make of it
unfoldable pub frame_row : Site → ℕ → FrameRow
frame_row s f = if is_listed f (all_overhead s) then frames.Overhead else row_of (pages_in s f)

-- what the pages in one slot make of it
abbrev pub slot_of : List Place → SlotRow
slot_of (Out bytes slot ∷ ps) = slots.Held bytes
slot_of [] = slots.Free
slot_of (Untouched ∷ ps) = slots.Free
slot_of (Here bytes frame shared ∷ ps) = slots.Free
slot_of (Lent epoch ∷ ps) = slots.Free

unfoldable pub slot_row : Site → ℕ → SlotRow
slot_row s i = slot_of (pages_out s i)

-- a page lent in an epoch that is over counts as untouched
abbrev pub map_row : ℕ → Place → MapRow
map_row epoch Untouched = maps.Untouched
map_row epoch (Here bytes frame shared) = maps.Here frame
map_row epoch (Out bytes slot) = maps.Out slot
map_row epoch (Lent e) = if e == epoch then maps.Lent e else maps.Untouched

-- an open period, each sampled page with whether it was accessed
abbrev pub period_row : Period → PeriodRow
period_row p = record { length = p.length; done = length p.accessed; marks = map (λ page. record { page = page; touched = is_touched p page }) p.pages }

abbrev pub vm_row : Vm → VmRow
vm_row v = record {
  spec = v.spec;
  state = v.state;
  epoch = v.epoch;
  due = v.due;
  target = v.target;
  overhead = v.overhead;
  pages = map (map_row v.epoch) v.places;
  slow = slow_average v.closed;
  fast = fast_average v.closed;
  period = option_map period_row v.period;
}

abbrev pub vm_rows : List (Option Vm) → List (Option VmRow)
vm_rows vms = map (option_map vm_row) vms

abbrev pub frame_rows : ℕ → Site → List FrameRow
frame_rows n s = map (frame_row s) (range_with_len 0 n)

abbrev pub slot_rows : ℕ → Site → List SlotRow
slot_rows n s = map (slot_row s) (range_with_len 0 n)

-- a row at its place in the order of keys
abbrev pub with_key : KeyRow → List KeyRow → List KeyRow
with_key row rows = with_placed (λ (x : KeyRow). x.key) row rows

-- the shared frames from frame f on, each under the key of its content
abbrev pub shared_from : ℕ → List FrameRow → List KeyRow
shared_from f [] = []
shared_from f (frames.Shared count bytes ∷ rows) = with_key (record { key = content_key bytes; frame = f }) (shared_from (f + 1) rows)
shared_from f (frames.Free ∷ rows) = shared_from (f + 1) rows
shared_from f (frames.Overhead ∷ rows) = shared_from (f + 1) rows
shared_from f (frames.Private bytes ∷ rows) = shared_from (f + 1) rows

unfoldable pub shared_rows : List FrameRow → List KeyRow
shared_rows rows = shared_from 0 rows

abbrev pub book_of : Config → Site → Level → Book
book_of c s level = record {
  frames = frame_rows c.frames s;
  slots = slot_rows c.slots s;
  vms = vm_rows s.vms;
  hints = s.hints;
  shared = shared_rows (frame_rows c.frames s);
  tau = s.tau;
  level = level;
}

-- the tables of a scene
abbrev pub shown : Config → Scene → Book
shown c t = book_of c t.site t.level
