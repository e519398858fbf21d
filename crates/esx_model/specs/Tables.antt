-- The tables that a machine keeps of a site, and the book that is read from them.
use Rattle.std.specs.Prelude.{ℕ, ◌==◌, Bool, List, map, Option, option_map, Some, None, find, if◌then◌else◌}
use Rattle.std.specs.List.{range_with_len}
use Rattle.esx_types.specs.declared.config.Config.{Config}
use Rattle.esx_types.specs.declared.level.Level.{Level}
use Rattle.esx_types.specs.declared.table.FrameRow.{FrameRow}
use Rattle.esx_types.specs.declared.table.FrameRow.TheVariants as frames
use Rattle.esx_types.specs.declared.table.MapRow.{MapRow}
use Rattle.esx_types.specs.declared.table.MapRow.TheVariants as maps
use Rattle.esx_formulas.specs.Average.{slow_average, fast_average}
use Rattle.esx_formulas.specs.Key.{content_key}
use Rattle.esx_model.specs.declared.scene.Place.{Place}
use Rattle.esx_model.specs.declared.scene.Place.TheVariants.{Untouched, Here, Out, Lent}
use Rattle.esx_model.specs.declared.scene.Vm.{Vm}
use Rattle.esx_types.specs.declared.table.Hint.{Hint}
use Rattle.esx_model.specs.declared.scene.Site.{Site}
use Rattle.esx_model.specs.declared.book.VmRow.{VmRow}
use Rattle.esx_types.specs.declared.table.KeyRow.{KeyRow}
use Rattle.esx_model.specs.declared.book.Book.{Book}
use Rattle.esx_model.specs.declared.look.Standing.{Standing}
use Rattle.esx_types.specs.declared.table.Listing.{Listing}
use Rattle.esx_types.specs.declared.table.Listing.TheVariants as listings
use Rattle.esx_types.specs.Listings.{in_order, hints_of, shared_from}
use Rattle.esx_types.specs.Pages.{resident_count, out_count, lent_count}
use Rattle.esx_model.specs.declared.tables.Tables.{Tables}
use Rattle.esx_model.specs.Places.{is_here_at}
use Rattle.esx_model.specs.Site.{place_of}
use Rattle.esx_model.specs.Show.{frame_row, frame_rows, slot_rows, period_row}

-- where a page is, without its bytes
abbrev pub raw_place : Place → MapRow
raw_place Untouched = maps.Untouched
raw_place (Here bytes frame shared) = maps.Here frame
raw_place (Out bytes slot) = maps.Out slot
raw_place (Lent epoch) = maps.Lent epoch

-- a machine's row, in which a loan stands with its epoch, also one that is over
abbrev pub vm_table : Vm → VmRow
vm_table v = record {
  spec = v.spec;
  state = v.state;
  epoch = v.epoch;
  due = v.due;
  target = v.target;
  overhead = v.overhead;
  pages = map raw_place v.places;
  slow = slow_average v.closed;
  fast = fast_average v.closed;
  period = option_map period_row v.period;
}

-- what gates read of a row; of a machine's row it is what they read of the machine
abbrev pub standing_of : VmRow → Standing
standing_of v = record { spec = v.spec; state = v.state; target = v.target; resident = resident_count v.pages; out = out_count v.pages; lent = lent_count v.epoch v.pages }

-- the hint's page is in frame f
abbrev pub is_hint_in : Site → ℕ → Hint → Bool
is_hint_in s f h = is_here_at f (place_of s h.vm h.page)

abbrev pub hint_listing : Option Hint → Listing
hint_listing None = listings.Unlisted
hint_listing (Some h) = listings.Hinted h.vm h.page h.key

-- a shared frame stands under its key, a private one under the short of its page's hint
abbrev pub listing_by : FrameRow → Option Hint → Listing
listing_by frames.Free hint = listings.Unlisted
listing_by frames.Overhead hint = listings.Unlisted
listing_by (frames.Private bytes) hint = hint_listing hint
listing_by (frames.Shared count bytes) hint = listings.Shared (content_key bytes)

unfoldable pub listing_row : Site → ℕ → Listing
listing_row s f = listing_by (frame_row s f) (find (is_hint_in s f) s.hints)

abbrev pub listing_rows : ℕ → Site → List Listing
listing_rows n s = map (listing_row s) (range_with_len 0 n)

abbrev pub tables_of : Config → Site → Tables
tables_of c s = record {
  frames = frame_rows c.frames s;
  slots = slot_rows c.slots s;
  vms = map (option_map vm_table) s.vms;
  listings = listing_rows c.frames s;
  tau = s.tau;
}

-- The book: a page lent in an epoch that is over counts as untouched.

abbrev pub read_place : ℕ → MapRow → MapRow
read_place epoch maps.Untouched = maps.Untouched
read_place epoch (maps.Here frame) = maps.Here frame
read_place epoch (maps.Out slot) = maps.Out slot
read_place epoch (maps.Lent e) = if e == epoch then maps.Lent e else maps.Untouched

abbrev pub read_vm : VmRow → VmRow
read_vm v = record v { pages = map (read_place v.epoch) v.pages }

-- the hints that the listings name, in order of short, and the shared frames, in order of key
abbrev pub read_hints : List Listing → List Hint
read_hints rows = in_order (λ (h : Hint). h.key) (hints_of rows)

abbrev pub read_keys : List Listing → List KeyRow
read_keys rows = in_order (λ (row : KeyRow). row.key) (shared_from 0 rows)

abbrev pub book_from : Tables → Level → Book
book_from t level = record {
  frames = t.frames;
  slots = t.slots;
  vms = map (option_map read_vm) t.vms;
  hints = read_hints t.listings;
  shared = read_keys t.listings;
  tau = t.tau;
  level = level;
}
