-- What the tables of a sound site hold of a page, and of a frame that nobody has taken.
use Rattle.std.proofs.Common.{◌≡◌, ℕ, ◌<◌, Bool, true, false, nat_lt, List, [], ◌∷◌, ◌++◌, length, set, refl, sym, ap, ◌∙◌, subst, arith, cond, Some, ◌==◌}
use Rattle.std.specs.List.{filter, find}
use Rattle.std.proofs.lemmas.Bool.{lt-ltb}
use Rattle.std.proofs.lemmas.Bool.Decides.{nat_tests}
use Rattle.std.proofs.lemmas.List.{set-get_or}
use Rattle.std.proofs.lemmas.List.FromFn.{length-map-range_with_len}
use Rattle.std.proofs.lemmas.List.Elements.{filter-append}
use Rattle.esx_types.specs.declared.config.Config.{Config}
use Rattle.esx_types.specs.declared.table.FrameRow.{FrameRow}
use Rattle.esx_types.specs.declared.table.FrameRow.TheVariants as frames
use Rattle.esx_types.specs.declared.table.SlotRow.{SlotRow}
use Rattle.esx_types.specs.declared.table.SlotRow.TheVariants as slots
use Rattle.esx_types.specs.declared.table.Listing.{Listing}
use Rattle.esx_types.specs.declared.table.Listing.TheVariants as listings
use Rattle.esx_types.specs.Frames.{frame_at}
use Rattle.esx_types.specs.Slots.{slot_at}
use Rattle.esx_types.specs.Listings.{listing_at}
use Rattle.esx_model.specs.declared.scene.Place.{Place}
use Rattle.esx_model.specs.declared.scene.Place.TheVariants.{Here, Out}
use Rattle.esx_model.specs.declared.scene.Vm.{Vm}
use Rattle.esx_model.specs.declared.scene.Site.{Site}
use Rattle.esx_model.specs.Places.{is_out_at}
use Rattle.esx_model.specs.Site.{vm_at, place_at, pages_at, all_places, all_overhead, least_free, least_slot}
use Rattle.esx_model.specs.Show.{row_of, in_slot, pages_in, pages_out, slot_of, frame_row, frame_rows, slot_row, slot_rows}
use Rattle.esx_model.specs.Tables.{is_hint_in, listing_by, listing_row, listing_rows}
use Rattle.esx_model.specs.sound.Frames.{pages_out_for}
use Rattle.esx_model.specs.sound.Machines.{IsPlace}
use Rattle.esx_model.specs.sound.Sound.{IsSound}
use Rattle.esx_model.proofs.Callers.{IsIn, page_is_in, old_place, row_here, private_row, shared_row, row_clear, row_in_rows, count_in_frame, least_unused, slot_unused, listing_is}

-- page `page` of machine n is at p
pub record Finds (c : Config) (s : Site) (n page : ℕ) (v : Vm) (p : Place) : Type 0 where
  pub sound : IsSound c s
  pub there : vm_at s n ≡ Some v
  pub below : page < v.spec.max
  pub was : place_at v page ≡ p

module _ (c : Config) (s : Site) (n page : ℕ) (v : Vm) where
  pub page_within : (p : Place) → Finds c s n page v p → page < length v.places
  page_within p h = (let fine = h.sound.each n v h.there in let low = h.below in omega (arith, fine.pages, low))

  pub page_in : (p : Place) → Finds c s n page v p → IsIn (all_places s) p
  page_in p h =
      let P : Place → Type 0 = IsIn (all_places s) in
      subst P h.was (page_is_in s n page v h.there (page_within p h))

  pub page_place : (p : Place) → Finds c s n page v p → IsPlace c v.epoch p
  page_place p h =
      let P : Place → Type 0 = IsPlace c v.epoch in
      subst P h.was (old_place c v page (h.sound.each n v h.there) (page_within p h))

  frame_there : (bytes : List ℕ) (f : ℕ) (shared : Bool) → Finds c s n page v (Here bytes f shared)
      → (frame_at (frame_rows c.frames s) f ≡ frame_row s f) × (frame_row s f ≡ row_of (pages_in s f))
  frame_there bytes f shared h =
      let place : IsPlace c v.epoch (Here bytes f shared) = page_place (Here bytes f shared) h in
      let clear = (row_here c.frames (all_places s) (all_overhead s) bytes f shared h.sound.frames (page_in (Here bytes f shared) h)).1 in
      (row_in_rows (frame_row s) c.frames f frames.Free place.0, row_clear s f clear)

  -- a page that is alone in its frame
  pub private_there : (bytes : List ℕ) (f : ℕ) → Finds c s n page v (Here bytes f false) → frame_at (frame_rows c.frames s) f ≡ frames.Private bytes
  private_there bytes f h =
      let rows = frame_there bytes f false h in
      rows.0 ∙ rows.1 ∙ private_row c.frames (all_places s) (all_overhead s) bytes f h.sound.frames (page_in (Here bytes f false) h)

  -- a page in a shared frame
  pub shared_there : (bytes : List ℕ) (f : ℕ) → Finds c s n page v (Here bytes f true) → frame_at (frame_rows c.frames s) f ≡ frames.Shared (pages_at f s) bytes
  shared_there bytes f h =
      let rows = frame_there bytes f true h in
      let row = shared_row c.frames (all_places s) (all_overhead s) bytes f h.sound.frames (page_in (Here bytes f true) h) in
      rows.0 ∙ rows.1 ∙ row.1 ∙ ap (λ (k : ℕ). frames.Shared k bytes) (count_in_frame s f row.0 bytes (rows.1 ∙ row.1))

  -- a page in a slot

  held_by : (bytes : List ℕ) (i : ℕ) (fs bs : List Place) (row : SlotRow) → fs ++ Out bytes i ∷ bs ≡ pages_out_for i row → row ≡ slots.Held bytes
  held_by bytes i [] bs slots.Free e = cc
  held_by bytes i (x ∷ fs) bs slots.Free e = cc
  held_by bytes i [] bs (slots.Held kept) e = cc
  held_by bytes i (x ∷ []) bs (slots.Held kept) e = cc
  held_by bytes i (x ∷ y ∷ fs) bs (slots.Held kept) e = cc

  same_number : (i : ℕ) → (i == i) ≡ true
  same_number i = grind (arith, nat_tests)

  slot_is : (i : ℕ) → slot_row s i ≡ slot_of (pages_out s i)
  unfolding slot_row
  slot_is i = refl

  pub held_there : (bytes : List ℕ) (i : ℕ) → Finds c s n page v (Out bytes i) → slot_at (slot_rows c.slots s) i ≡ slots.Held bytes
  held_there bytes i h =
      let place : IsPlace c v.epoch (Out bytes i) = page_place (Out bytes i) h in
      let i_in = page_in (Out bytes i) h in
      let fs = filter (is_out_at i) i_in.front in
      let bs = filter (is_out_at i) i_in.back in
      let split : in_slot i (all_places s) ≡ fs ++ Out bytes i ∷ bs =
      ap (in_slot i) i_in.is ∙ filter-append (is_out_at i) i_in.front (Out bytes i ∷ i_in.back) ∙ ap (λ (b : Bool). fs ++ cond b (Out bytes i ∷ bs) bs) (same_number i) in
      row_in_rows (slot_row s) c.slots i slots.Free place.0 ∙ slot_is i
      ∙ held_by bytes i fs bs (slot_of (pages_out s i)) (sym split ∙ h.sound.frames.single i)

-- as many rows as frames and slots
pub frame_count : (c : Config) (s : Site) (f : ℕ) → f < c.frames → nat_lt f (length (frame_rows c.frames s)) ≡ true
frame_count c s f below = ap (λ (k : ℕ). nat_lt f k) (length-map-range_with_len (frame_row s) 0 c.frames) ∙ lt-ltb f c.frames below

pub slot_count : (c : Config) (s : Site) (i : ℕ) → i < c.slots → nat_lt i (length (slot_rows c.slots s)) ≡ true
slot_count c s i below = ap (λ (k : ℕ). nat_lt i k) (length-map-range_with_len (slot_row s) 0 c.slots) ∙ lt-ltb i c.slots below

-- the least frame that nobody has taken
pub free_there : (c : Config) (s : Site) (f : ℕ) → least_free c.frames s ≡ Some f → frame_at (frame_rows c.frames s) f ≡ frames.Free
free_there c s f found =
    let unused = least_unused c.frames s f found in
    row_in_rows (frame_row s) c.frames f frames.Free unused.below ∙ row_clear s f unused.clear ∙ ap row_of unused.pages

pub free_unlisted : (c : Config) (s : Site) (f : ℕ) → least_free c.frames s ≡ Some f → set (listing_rows c.frames s) f listings.Unlisted ≡ listing_rows c.frames s
free_unlisted c s f found =
    let unused = least_unused c.frames s f found in
    let rows : List Listing = listing_rows c.frames s in
    let free : frame_row s f ≡ frames.Free = row_clear s f unused.clear ∙ ap row_of unused.pages in
    let there : listing_at rows f ≡ listings.Unlisted =
    row_in_rows (listing_row s) c.frames f listings.Unlisted unused.below ∙ listing_is s f ∙ ap (λ (r : FrameRow). listing_by r (find (is_hint_in s f) s.hints)) free in
    ap (λ (l : Listing). set rows f l) (sym there) ∙ set-get_or rows f listings.Unlisted

-- the least slot that no page is in
pub free_slot_there : (c : Config) (s : Site) (i : ℕ) → least_slot c.slots s ≡ Some i → slot_at (slot_rows c.slots s) i ≡ slots.Free
unfolding slot_row
free_slot_there c s i found =
    let unused = slot_unused c.slots s i found in
    row_in_rows (slot_row s) c.slots i slots.Free unused.0 ∙ ap slot_of unused.1
