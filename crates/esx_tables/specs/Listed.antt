-- Which contents listed frames have, as prints tell of it.
use Rattle.std.specs.Prelude.{ℕ, Bool, List}
use Rattle.esx_types.specs.declared.table.FrameRow.{FrameRow}
use Rattle.esx_types.specs.declared.table.Listing.{Listing}
use Rattle.esx_types.specs.Frames.{bytes_of, frame_at}
use Rattle.esx_types.specs.Listings.{listing_at}
use Rattle.esx_keys.specs.Index.{is_listed}
use Rattle.esx_prints.specs.Prints.{Noted, Covers}

abbrev pub is_listed_at : List Listing → ℕ → Bool
is_listed_at listings frame = is_listed (listing_at listings frame)

abbrev pub content_at : List FrameRow → ℕ → List ℕ
content_at frames frame = bytes_of (frame_at frames frame)

-- the content of each listed frame was noted, or waits for it
abbrev pub AreNoted : List FrameRow → List Listing → Noted → Type 0
AreNoted frames listings prints = Covers (is_listed_at listings) (content_at frames) prints
