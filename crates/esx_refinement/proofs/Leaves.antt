-- What is made where a page leaves its place for no frame and no slot.
use Rattle.std.proofs.Common.{◌≡◌, ◌≢◌, ℕ, ◌-◌, ◌<◌, Bool, true, false, nat_lt, nat_le, List, [], ◌∷◌, ◌++◌, length, get_or, set, map, refl, sym, ap, ◌∙◌, subst, arith, cond, Option, Some, None}
use Rattle.std.proofs.lemmas.Bool.{false≢true}
use Rattle.std.proofs.lemmas.Bool.Decides.{nat_tests}
use Rattle.std.proofs.lemmas.List.{map-set, set-get_or}
use Rattle.esx_types.specs.declared.config.Config.{Config}
use Rattle.esx_types.specs.declared.table.FrameRow.{FrameRow}
use Rattle.esx_types.specs.declared.table.FrameRow.TheVariants as frames
use Rattle.esx_types.specs.declared.table.Listing.{Listing}
use Rattle.esx_types.specs.declared.table.Listing.TheVariants as listings
use Rattle.esx_types.specs.declared.table.MapRow.{MapRow}
use Rattle.esx_types.specs.declared.vm.VmState.TheVariants.{Starting, Running, Stopping}
use Rattle.esx_types.specs.Frames.{frame_at, ref_count}
use Rattle.esx_types.specs.Listings.{listing_at}
use Rattle.esx_types.specs.Pages.{page_at}
use Rattle.esx_frames.specs.Marks.{mark_traded}
use Rattle.esx_frames.specs.declared.marks.Mark.TheVariants as marks
use Rattle.esx_model.specs.declared.scene.Place.{Place}
use Rattle.esx_model.specs.declared.scene.Place.TheVariants.{Untouched, Here, Out, Lent}
use Rattle.esx_model.specs.declared.scene.Vm.{Vm}
use Rattle.esx_model.specs.declared.scene.Site.{Site}
use Rattle.esx_model.specs.declared.book.VmRow.{VmRow}
use Rattle.esx_model.specs.declared.tables.Tables.{Tables}
use Rattle.esx_model.specs.Places.{is_private}
use Rattle.esx_model.specs.Site.{vm_at, place_at, all_places, all_overhead}
use Rattle.esx_model.specs.Hints.{with_place, placed}
use Rattle.esx_model.specs.Show.{row_of, pages_in, frame_row, frame_rows}
use Rattle.esx_model.specs.Tables.{raw_place, vm_table, tables_of}
use Rattle.esx_model.specs.Moved.{less, listing_after, put_vm, put_frame, left, joined}
use Rattle.esx_model.specs.sound.Machines.{IsPlace}
use Rattle.esx_model.specs.sound.Sound.{IsSound}
use Rattle.esx_model.proofs.Callers.{IsIn, page_is_in, old_place, row_here, private_row, shared_row, row_clear, row_in_rows, Room, placed_shown}
use Rattle.esx_tables.specs.declared.change.Change.{Change}
use Rattle.esx_tables.specs.declared.change.Change.TheVariants.{FrameAt, MarkAt, ListingAt, OfVm}
use Rattle.esx_tables.specs.declared.change.VmPart.TheVariants.{PageAt}
use Rattle.esx_tables.specs.Changes.{traded, exchanged}
use Rattle.esx_tables.specs.Readings.{row_at}
use Rattle.esx_refinement.specs.Refinement.{Makes}
use Rattle.esx_changes.specs.Leaves.{frame_left, place_left, page_leaves}
use Rattle.esx_refinement.proofs.Refining.{row_is, page_row}
use Rattle.esx_refinement.proofs.Made.{exchanged_then, parts_made}

-- The row of the frame that a page is in.

-- what is known of a page that is in a frame
record InFrame (c : Config) (s : Site) (f : ℕ) (bytes : List ℕ) (shared : Bool) : Type 0 where
  within : IsIn (all_places s) (Here bytes f shared)
  below : f < c.frames

in_frame : (c : Config) (s : Site) (n page : ℕ) (v : Vm) (bytes : List ℕ) (f : ℕ) (shared : Bool) → IsSound c s → vm_at s n ≡ Some v → page < v.spec.max → place_at v page ≡ Here bytes f shared → InFrame c s f bytes shared
in_frame c s n page v bytes f shared sound there below was =
    let fine = sound.each n v there in
    let within : page < length v.places = omega (arith, fine.pages, below) in
    let P : Place → Type 0 = IsIn (all_places s) in
    let Q : Place → Type 0 = IsPlace c v.epoch in
    record {
      within = subst P was (page_is_in s n page v there within);
      below = (let place : IsPlace c v.epoch (Here bytes f shared) = subst Q was (old_place c v page fine within) in place.0);
    }

row_seen : (c : Config) (s : Site) (f : ℕ) (bytes : List ℕ) (shared : Bool) → IsSound c s → InFrame c s f bytes shared → frame_at (frame_rows c.frames s) f ≡ row_of (pages_in s f)
row_seen c s f bytes shared sound i =
    row_in_rows (frame_row s) c.frames f frames.Free i.below ∙ row_clear s f (row_here c.frames (all_places s) (all_overhead s) bytes f shared sound.frames i.within).1

-- The changes make what is left of the tables.

-- a frame that one page had
pub frame_freed : (t : Tables) (f : ℕ) (bytes : List ℕ) → frame_at t.frames f ≡ frames.Private bytes
    → (exchanged t (frame_left f (ref_count (frame_at t.frames f)))).0 ≡ put_frame t f (less (frame_at t.frames f)) (listing_after (less (frame_at t.frames f)) (listing_at t.listings f))
unfolding exchanged traded
frame_freed t f bytes is =
    let P : FrameRow → Type 0 = λ r. (exchanged t (frame_left f (ref_count r))).0 ≡ put_frame t f (less r) (listing_after (less r) (listing_at t.listings f)) in
    subst P (sym is) refl

-- a frame that pages share: with the last of them it is free
pub frame_shared : (t : Tables) (f count : ℕ) (bytes : List ℕ) → frame_at t.frames f ≡ frames.Shared count bytes
    → (exchanged t (frame_left f (ref_count (frame_at t.frames f)))).0 ≡ put_frame t f (less (frame_at t.frames f)) (listing_after (less (frame_at t.frames f)) (listing_at t.listings f))
unfolding exchanged traded
frame_shared t f count bytes is =
    let P : FrameRow → Type 0 = λ r. (exchanged t (frame_left f (ref_count r))).0 ≡ put_frame t f (less r) (listing_after (less r) (listing_at t.listings f)) in
    subst P (sym is) (of (nat_lt 1 count))
  where
    fewer : FrameRow
    fewer = frames.Shared (count - 1) bytes

    of : (b : Bool) → (exchanged t (cond b (MarkAt f (marks.Shared (count - 1)) ∷ []) (FrameAt f frames.Free ∷ ListingAt f listings.Unlisted ∷ []))).0
        ≡ put_frame t f (cond b fewer frames.Free) (listing_after (cond b fewer frames.Free) (listing_at t.listings f))
    of true =
        ap (λ (r : FrameRow). record t { frames = set t.frames f (mark_traded r (marks.Shared (count - 1))).0 }) is
        ∙ ap (λ (ls : List Listing). record t { frames = set t.frames f fewer; listings = ls }) (sym (set-get_or t.listings f listings.Unlisted))
    of false = refl

left_vms : (p : Place) (t : Tables) → (left p t).vms ≡ t.vms
left_vms Untouched t = refl
left_vms (Here bytes f shared) t = refl
left_vms (Out bytes i) t = refl
left_vms (Lent epoch) t = refl

-- what is left of the tables of a site where a page leaves its place
left_made : (c : Config) (s : Site) (n page : ℕ) (v : Vm) (p : Place) → IsSound c s → vm_at s n ≡ Some v → page < v.spec.max → place_at v page ≡ p
    → (exchanged (tables_of c s) (place_left (frame_rows c.frames s) (raw_place p))).0 ≡ left p (tables_of c s)
unfolding exchanged traded
left_made c s n page v Untouched sound there below was = refl
left_made c s n page v (Lent epoch) sound there below was = refl
left_made c s n page v (Out bytes i) sound there below was = refl
left_made c s n page v (Here bytes f false) sound there below was =
    let i = in_frame c s n page v bytes f false sound there below was in
    frame_freed (tables_of c s) f bytes (row_seen c s f bytes false sound i ∙ private_row c.frames (all_places s) (all_overhead s) bytes f sound.frames i.within)
left_made c s n page v (Here bytes f true) sound there below was =
    let i = in_frame c s n page v bytes f true sound there below was in
    let row = shared_row c.frames (all_places s) (all_overhead s) bytes f sound.frames i.within in
    frame_shared (tables_of c s) f row.0 bytes (row_seen c s f bytes true sound i ∙ row.1)

-- A page goes from where it is to a place that is no frame and no slot.
pub page_leaves_made : (c : Config) (s : Site) (n page : ℕ) (v : Vm) (q : Place) → IsSound c s → vm_at s n ≡ Some v → page < v.spec.max → v.state ≢ Starting → IsPlace c v.epoch q
    → Room c s (place_at v page) q → is_private q ≡ false → ((t : Tables) → joined q t ≡ t)
    → Makes c s (page_leaves (frame_rows c.frames s) n page (page_at (vm_table v).pages page) (raw_place q)) (placed s n page q)
page_leaves_made c s n page v q sound there below past place room apart nowhere =
    let t : Tables = tables_of c s in
    let p : Place = place_at v page in
    let mid : Tables = left p t in
    let changes : List Change = place_left (frame_rows c.frames s) (page_at (vm_table v).pages page) in
    let last : List Change = OfVm n (PageAt page (raw_place q)) ∷ [] in
    let w : Vm = with_place page q v in
    let old : (exchanged t changes).0 ≡ mid =
    ap (λ (row : MapRow). (exchanged t (place_left (frame_rows c.frames s) row)).0) (page_row v page) ∙ left_made c s n page v p sound there below refl in
    let row : row_at mid n ≡ Some (vm_table v) = ap (λ (vms : List (Option VmRow)). get_or vms n None) (left_vms p t) ∙ row_is c s n v there in
    let pages : set (map raw_place v.places) page (raw_place q) ≡ map raw_place (set v.places page q) = sym (map-set raw_place v.places page q) in
    let made : (exchanged t (changes ++ last)).0 ≡ put_vm mid n (Some (vm_table w)) =
    exchanged_then t changes last ∙ ap (λ (x : Tables). (exchanged x last).0) old ∙ parts_made mid n (vm_table v) (PageAt page (raw_place q) ∷ []) row
    ∙ ap (λ (rows : List MapRow). put_vm mid n (Some (record (vm_table v) { pages = rows }))) pages in
    let shown : tables_of c (placed s n page q) ≡ put_vm mid n (Some (vm_table w)) =
    placed_shown c s n page v q sound there below past place room (λ private. absurd (false≢true (sym apart ∙ private)))
    ∙ ap (λ (x : Tables). put_vm x n (Some (vm_table w))) (nowhere mid) in
    made ∙ sym shown

-- What a gate that was passed says.

pub below_max : (max page : ℕ) → nat_le max page ≡ false → page < max
below_max max page h = grind (arith, nat_tests)

pub past_stop : (v : Vm) → v.state ≡ Stopping → v.state ≢ Starting
past_stop v stopping e = (let d : Stopping ≡ Starting = sym stopping ∙ e in cc)

pub past_start : (v : Vm) → v.state ≡ Running → v.state ≢ Starting
past_start v running e = (let d : Running ≡ Starting = sym running ∙ e in cc)
