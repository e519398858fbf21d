-- The plan of a scan: what a look at a page finds in the tables, what it changes and what is said of it.
use Rattle.std.specs.Prelude.{ℕ, ◌+◌, ◌<◌, ◌^◌, ◌&&◌, ◌==◌, List, [], ◌∷◌, Option, Some, None, bytes_eq, if◌then◌else◌, Ok, Err}
use Rattle.std.specs.List.{position_from}
use Rattle.esx_types.specs.declared.table.FrameRow.{FrameRow}
use Rattle.esx_types.specs.declared.table.FrameRow.TheVariants as frames
use Rattle.esx_types.specs.declared.table.MapRow.{MapRow}
use Rattle.esx_types.specs.declared.table.MapRow.TheVariants as maps
use Rattle.esx_types.specs.declared.table.Listing.{Listing}
use Rattle.esx_types.specs.declared.table.Listing.TheVariants as listings
use Rattle.esx_types.specs.Frames.{frame_at, bytes_of, ref_count}
use Rattle.esx_types.specs.Listings.{listing_at, is_shared_under, is_hinted_under}
use Rattle.esx_types.specs.Pages.{is_here, page_at}
use Rattle.esx_events.specs.declared.event.Answer.TheVariants as answers
use Rattle.esx_events.specs.declared.event.Scanned.{Scanned}
use Rattle.esx_events.specs.declared.event.Scanned.TheVariants as scanned
use Rattle.esx_events.specs.declared.event.Refusal.TheVariants.{NotResident}
use Rattle.esx_formulas.specs.Key.{content_key, short_of, hint_key}
use Rattle.esx_frames.specs.declared.marks.Mark.TheVariants as marks
use Rattle.esx_model.specs.declared.look.Look.{Look}
use Rattle.esx_model.specs.declared.look.Look.TheVariants.{Already, SharedFrame, OtherPage, Changed, OtherBytes, Nothing}
use Rattle.esx_model.specs.declared.tables.Tables.{Tables}
use Rattle.esx_model.specs.Tables.{standing_of}
use Rattle.esx_model.specs.event.Outcome.{unless}
use Rattle.esx_model.specs.event.Sharing.{scan_gate}
use Rattle.esx_tables.specs.declared.change.Change.{Change}
use Rattle.esx_tables.specs.declared.change.Change.TheVariants.{FrameAt, MarkAt, ListingAt, OfVm}
use Rattle.esx_tables.specs.declared.change.VmPart.TheVariants.{PageAt}
use Rattle.esx_tables.specs.Readings.{row_at}
use Rattle.esx_changes.specs.Planned.{Planned, at_row}

-- What a look finds.

-- at a frame that is shared under the page's key
abbrev pub look_at_shared : List ℕ → List ℕ → ℕ → Look
look_at_shared bytes others g = if bytes_eq bytes others then SharedFrame g else OtherBytes

-- at a frame whose page is the hint under the upper bits of the page's key: equal bytes need no second key, and it is stale only where those bits are other ones now
abbrev pub look_at_hinted : ℕ → ℕ → List ℕ → ℕ → List ℕ → ℕ → Listing → Look
look_at_hinted n page bytes short others g (listings.Hinted m q own) =
    if (m == n) && (q == page) then Nothing
    else (if bytes_eq bytes others then OtherPage m q g
    else (if hint_key others == short then OtherBytes else Changed))
look_at_hinted n page bytes short others g listings.Unlisted = Nothing
look_at_hinted n page bytes short others g (listings.Shared own) = Nothing

abbrev pub look_at_hint : Tables → ℕ → ℕ → List ℕ → ℕ → Option ℕ → Look
look_at_hint t n page bytes short None = Nothing
look_at_hint t n page bytes short (Some g) = look_at_hinted n page bytes short (bytes_of (frame_at t.frames g)) g (listing_at t.listings g)

-- a shared frame comes before a hint
abbrev pub look_by_key : Tables → ℕ → ℕ → List ℕ → ℕ → Option ℕ → Look
look_by_key t n page bytes key (Some g) = look_at_shared bytes (bytes_of (frame_at t.frames g)) g
look_by_key t n page bytes key None = look_at_hint t n page bytes (short_of key) (position_from (is_hinted_under (short_of key)) 0 t.listings)

-- by the row of the page's frame: a page that is not private is looked for no more
unfoldable pub look_in : Tables → ℕ → ℕ → FrameRow → Look
look_in t n page frames.Free = Already
look_in t n page frames.Overhead = Already
look_in t n page (frames.Private bytes) = look_by_key t n page bytes (content_key bytes) (position_from (is_shared_under (content_key bytes)) 0 t.listings)
look_in t n page (frames.Shared count bytes) = Already

-- the key of a private page; no other page is looked for, and none needs one
abbrev pub key_in : FrameRow → ℕ
key_in frames.Free = 0
key_in frames.Overhead = 0
key_in (frames.Private bytes) = content_key bytes
key_in (frames.Shared count bytes) = 0

-- What a look changes.

-- a page leaves its frame f for frame g, where so many are then
abbrev pub join_changes : ℕ → ℕ → ℕ → ℕ → ℕ → List Change
join_changes n page f g count =
    FrameAt f frames.Free ∷ ListingAt f listings.Unlisted ∷ MarkAt g (marks.Shared count) ∷ OfVm n (PageAt page (maps.Here g)) ∷ []

-- the same where g was private: it is shared under the key from now on
abbrev pub pair_changes : ℕ → ℕ → ℕ → ℕ → ℕ → List Change
pair_changes n page f g key = ListingAt g (listings.Shared key) ∷ join_changes n page f g 2

-- a page becomes the hint under the upper bits of its key; the one that stood there goes
abbrev pub hint_changes : ℕ → ℕ → ℕ → ℕ → Option ℕ → List Change
hint_changes n page f short None = ListingAt f (listings.Hinted n page short) ∷ []
hint_changes n page f short (Some g) = ListingAt g listings.Unlisted ∷ ListingAt f (listings.Hinted n page short) ∷ []

abbrev pub count_with : Tables → ℕ → ℕ
count_with t g = ref_count (frame_at t.frames g) + 1

abbrev pub look_changes : Tables → ℕ → ℕ → ℕ → ℕ → Look → List Change
look_changes t n page f key Already = []
look_changes t n page f key (SharedFrame g) = join_changes n page f g (count_with t g)
look_changes t n page f key (OtherPage m q g) = pair_changes n page f g key
look_changes t n page f key Changed = hint_changes n page f (short_of key) (position_from (is_hinted_under (short_of key)) 0 t.listings)
look_changes t n page f key OtherBytes = []
look_changes t n page f key Nothing = hint_changes n page f (short_of key) (position_from (is_hinted_under (short_of key)) 0 t.listings)

-- what is said of it
abbrev pub look_said : Tables → Look → Scanned
look_said t Already = scanned.Already
look_said t (SharedFrame g) = scanned.Shared g (count_with t g)
look_said t (OtherPage m q g) = scanned.Shared g 2
look_said t Changed = scanned.Stale
look_said t OtherBytes = scanned.Clash
look_said t Nothing = scanned.Hinted

-- The scan.

-- a page that looks found in frame f
abbrev pub looked : Tables → ℕ → ℕ → ℕ → ℕ → Look → Planned
looked t n page f key l = Ok (answers.Looked (look_said t l), look_changes t n page f key l)

abbrev pub scan_frame : Tables → ℕ → ℕ → ℕ → FrameRow → Planned
scan_frame t n page f row = looked t n page f (key_in row) (look_in t n page row)

abbrev pub scan_row : Tables → ℕ → ℕ → MapRow → Planned
scan_row t n page (maps.Here f) = scan_frame t n page f (frame_at t.frames f)
scan_row t n page maps.Untouched = Err NotResident
scan_row t n page (maps.Out slot) = Err NotResident
scan_row t n page (maps.Lent epoch) = Err NotResident

unfoldable pub scan_plan : Tables → ℕ → ℕ → Planned
scan_plan t n page = at_row (row_at t n) (λ v. unless (scan_gate (standing_of v) page (is_here (page_at v.pages page))) (scan_row t n page (page_at v.pages page)))

-- one page more can be counted in each shared frame
abbrev pub HasCounts : Tables → Type 0
HasCounts t = (g : ℕ) → count_with t g < 2 ^ 32
