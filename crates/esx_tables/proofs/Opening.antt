-- The tables of a site with no machines.
use Rattle.std.proofs.Common.{◌≡◌, ℕ, zero, suc, ◌+◌, List, ◌∷◌, map, replicate, refl, sym, ap, ◌∙◌}
use Rattle.std.specs.List.{range_with_len}
use Rattle.esx_types.specs.declared.config.Config.{Config}
use Rattle.esx_types.specs.declared.table.FrameRow.{FrameRow}
use Rattle.esx_types.specs.declared.table.FrameRow.TheVariants as frames
use Rattle.esx_types.specs.declared.table.SlotRow.{SlotRow}
use Rattle.esx_types.specs.declared.table.SlotRow.TheVariants as slots
use Rattle.esx_types.specs.declared.table.Listing.{Listing}
use Rattle.esx_types.specs.declared.table.Listing.TheVariants as listings
use Rattle.esx_types.specs.declared.table.MapRow.TheVariants as maps
use Rattle.esx_lists.proofs.Counts.{map-replicate}
use Rattle.esx_model.specs.declared.scene.Place.TheVariants.{Untouched}
use Rattle.esx_model.specs.Site.{all_places, all_overhead}
use Rattle.esx_model.specs.Show.{frame_row, slot_row}
use Rattle.esx_model.specs.Replay.{opening}
use Rattle.esx_model.specs.Tables.{tables_of, listing_row, listing_rows, raw_place}
use Rattle.esx_tables.specs.Readings.{empty_tables}

-- a table with the same row at each place
all_same : {T : Type 0} (h : ℕ → T) (x : T) → ((i : ℕ) → h i ≡ x) → (at n : ℕ) → map h (range_with_len at n) ≡ replicate n x
all_same h x same at zero = refl
all_same {T = T} h x same at (suc n) = ap (λ (y : T). y ∷ map h (range_with_len (at + 1) n)) (same at) ∙ ap (λ (ys : List T). x ∷ ys) (all_same h x same (at + 1) n)

frame_free : (c : Config) (f : ℕ) → frame_row (opening c).site f ≡ frames.Free
unfolding frame_row all_places all_overhead
frame_free c f = refl

slot_free : (c : Config) (i : ℕ) → slot_row (opening c).site i ≡ slots.Free
unfolding slot_row all_places
slot_free c i = refl

nothing_listed : (c : Config) (f : ℕ) → listing_row (opening c).site f ≡ listings.Unlisted
unfolding listing_row frame_row all_places all_overhead
nothing_listed c f = refl

pub opening_shown : (c : Config) → empty_tables c ≡ tables_of c (opening c).site
opening_shown c =
    let site = (opening c).site in
    sym (ap (λ (rows : List FrameRow). record (tables_of c site) { frames = rows }) (all_same (frame_row site) frames.Free (frame_free c) 0 c.frames)
    ∙ ap (λ (rows : List SlotRow). record (empty_tables c) { slots = rows; listings = listing_rows c.frames site }) (all_same (slot_row site) slots.Free (slot_free c) 0 c.slots)
    ∙ ap (λ (rows : List Listing). record (empty_tables c) { listings = rows }) (all_same (listing_row site) listings.Unlisted (nothing_listed c) 0 c.frames))

-- the row of a machine as it is admitted
pub untouched_shown : (n : ℕ) → replicate n maps.Untouched ≡ map raw_place (replicate n Untouched)
untouched_shown n = sym (map-replicate raw_place n Untouched)
