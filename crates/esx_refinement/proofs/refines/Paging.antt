-- The page that is paged out.
use Rattle.std.proofs.Common.{◌≡◌, ℕ, ◌-◌, ◌<◌, nat_lt, Bool, true, false, List, [], ◌∷◌, length, set, refl, sym, ap, ◌∙◌, subst, arith, cond, Option, Some, None}
use Rattle.std.proofs.lemmas.List.{set-set, set-get_or, get_or-set_same, length-set}
use Rattle.std.proofs.lemmas.Bool.{false≢true, lt-ltb}
use Rattle.esx_lists.proofs.Positions.{first_found}
use Rattle.esx_types.specs.declared.config.Config.{Config}
use Rattle.esx_types.specs.declared.level.Level.{Level}
use Rattle.esx_types.specs.declared.table.FrameRow.{FrameRow}
use Rattle.esx_types.specs.declared.table.FrameRow.TheVariants as frames
use Rattle.esx_types.specs.declared.table.SlotRow.{SlotRow}
use Rattle.esx_types.specs.declared.table.SlotRow.TheVariants as slots
use Rattle.esx_types.specs.declared.table.Listing.{Listing}
use Rattle.esx_types.specs.declared.table.Listing.TheVariants as listings
use Rattle.esx_types.specs.declared.table.MapRow.{MapRow}
use Rattle.esx_types.specs.declared.table.MapRow.TheVariants as maps
use Rattle.esx_types.specs.Frames.{frame_at}
use Rattle.esx_types.specs.Slots.{is_empty, slot_at, least_slot}
use Rattle.esx_types.specs.Listings.{listing_at}
use Rattle.esx_frames.specs.declared.marks.Mark.TheVariants as marks
use Rattle.esx_frames.specs.Marks.{mark_traded, slot_traded, slot_traded_at}
use Rattle.esx_model.specs.declared.look.Look.{Look}
use Rattle.esx_model.specs.declared.look.Look.TheVariants.{Already, SharedFrame, OtherPage, Changed, OtherBytes, Nothing}
use Rattle.esx_model.specs.declared.scene.Place.{Place}
use Rattle.esx_model.specs.declared.scene.Place.TheVariants.{Untouched, Here, Out, Lent}
use Rattle.esx_model.specs.declared.scene.Vm.{Vm}
use Rattle.esx_model.specs.declared.scene.Site.{Site}
use Rattle.esx_model.specs.declared.book.VmRow.{VmRow}
use Rattle.esx_model.specs.declared.tables.Tables.{Tables}
use Rattle.esx_model.specs.Places.{is_here, contents}
use Rattle.esx_model.specs.Site as site
use Rattle.esx_model.specs.Site.{vm_at, place_at}
use Rattle.esx_model.specs.Tables.{raw_place, vm_table, tables_of}
use Rattle.esx_model.specs.Hints.{with_place, placed}
use Rattle.esx_model.specs.Moved.{less, listing_after, put_vm, put_frame, left, joined}
use Rattle.esx_model.specs.event.Sharing.{look, after_look}
use Rattle.esx_model.specs.event.Paging as model
use Rattle.esx_model.specs.event.Paging.{victim, swap_out_gate, swap_out}
use Rattle.esx_model.specs.sound.Machines.{IsPlace}
use Rattle.esx_model.specs.sound.Sound.{IsSound}
use Rattle.esx_model.proofs.Callers.{Sees, look_sees, drawn_is_here, old_place, slot_unused, room_slot, placed_shown, here_past, frame_below}
use Rattle.esx_tables.specs.declared.change.Change.TheVariants.{OfVm}
use Rattle.esx_tables.specs.declared.change.VmPart.TheVariants.{PageAt}
use Rattle.esx_tables.specs.Changes.{slots_traded, traded, exchanged}
use Rattle.esx_tables.specs.Readings.{row_at}
use Rattle.esx_refinement.specs.Refinement.{Makes, Refines}
use Rattle.esx_sharing.specs.Sharing.{key_in, look_changes}
use Rattle.esx_changes.specs.Drawn.{drawn_page}
use Rattle.esx_sharing.specs.Paging.{move_changes, copy_changes, last_changes, out_changes, to_slot, leave_by, leave_row, leave, swap_out_plan}
use Rattle.esx_refinement.proofs.Refining.{row_is, page_row, needs_vm, passes_same, found_same, standing_shown}
use Rattle.esx_refinement.proofs.Made.{parts_made}
use Rattle.esx_refinement.proofs.Drawn.{drawn_found, slot_found}
use Rattle.esx_refinement.proofs.Looks.{look_shown, own_page, row_at_frame, frame_shared, private_row_at}
use Rattle.esx_refinement.proofs.refines.Sharing.{with_page, page_put, frame_count, look_makes}

-- The page moves to a slot that is free.

-- the tables after a page left its frame, which has another row and stands under another listing, for slot i
abbrev pub out_tables : Tables → ℕ → ℕ → ℕ → ℕ → List ℕ → FrameRow → List Listing → VmRow → Tables
out_tables t n page f i bytes row ls r =
    put_vm (record t { frames = set t.frames f row; slots = set t.slots i (slots.Held bytes); listings = ls }) n (Some (with_page r page (maps.Out i)))

trade_frame : (fs : List FrameRow) (f : ℕ) (slot : SlotRow) (bytes : List ℕ) → f < length fs → frame_at fs f ≡ frames.Private bytes → slot ≡ slots.Free → slot_traded_at f fs slot ≡ (set fs f frames.Free, slots.Held bytes)
trade_frame fs f slot bytes inside row free =
    let Both : Type 0 = List FrameRow × SlotRow in
    let made : FrameRow → SlotRow → Both = λ r x. (set fs f (slot_traded r x).0, (slot_traded r x).1) in
    let last : Both = (fs, slot) in
    ap (λ b. cond b (made (frame_at fs f) slot) last) (lt-ltb f (length fs) inside) ∙ ap (λ r. made r slot) row ∙ ap (made (frames.Private bytes)) free

trade_within : (fs : List FrameRow) (ss : List SlotRow) (f i : ℕ) (bytes : List ℕ) → f < length fs → i < length ss → frame_at fs f ≡ frames.Private bytes → slot_at ss i ≡ slots.Free
    → slots_traded f i fs ss ≡ (set fs f frames.Free, set ss i (slots.Held bytes))
unfolding slots_traded
trade_within fs ss f i bytes frame slot row free =
    let Both : Type 0 = List FrameRow × List SlotRow in
    let made : List FrameRow × SlotRow → Both = λ x. (x.0, set ss i x.1) in
    let last : Both = (fs, ss) in
    ap (λ b. cond b (made (slot_traded_at f fs (slot_at ss i))) last) (lt-ltb i (length ss) slot) ∙ ap made (trade_frame fs f (slot_at ss i) bytes frame row free)

move_made : (t : Tables) (n page f i : ℕ) (bytes : List ℕ) (r : VmRow) → row_at t n ≡ Some r → f < length t.frames → i < length t.slots → frame_at t.frames f ≡ frames.Private bytes → slot_at t.slots i ≡ slots.Free
    → (exchanged t (move_changes n page f i)).0 ≡ out_tables t n page f i bytes frames.Free (set t.listings f listings.Unlisted) r
unfolding exchanged traded
move_made t n page f i bytes r there frame slot row free =
    ap (λ (x : List FrameRow × List SlotRow). (exchanged (record t { frames = x.0; slots = x.1; listings = set t.listings f listings.Unlisted }) (OfVm n (PageAt page (maps.Out i)) ∷ [])).0) (trade_within t.frames t.slots f i bytes frame slot row free)
    ∙ parts_made (record t { frames = set t.frames f frames.Free; slots = set t.slots i (slots.Held bytes); listings = set t.listings f listings.Unlisted }) n r (PageAt page (maps.Out i) ∷ []) there

copy_made : (t : Tables) (n page f i count less : ℕ) (bytes : List ℕ) (r : VmRow) → row_at t n ≡ Some r → frame_at t.frames f ≡ frames.Shared count bytes
    → (exchanged t (copy_changes n page f i less bytes)).0 ≡ out_tables t n page f i bytes (frames.Shared less bytes) t.listings r
unfolding exchanged traded
copy_made t n page f i count less bytes r there row =
    ap (λ x. (exchanged (record t { frames = set t.frames f (mark_traded x (marks.Shared less)).0; slots = set t.slots i (slots.Held bytes) }) (OfVm n (PageAt page (maps.Out i)) ∷ [])).0) row
    ∙ parts_made (record t { frames = set t.frames f (frames.Shared less bytes); slots = set t.slots i (slots.Held bytes) }) n r (PageAt page (maps.Out i) ∷ []) there

-- a page in frame f goes to slot i
pub record GoesOut (c : Config) (s : Site) (n page : ℕ) (v : Vm) (bytes : List ℕ) (f : ℕ) (shared : Bool) (i : ℕ) : Type 0 where
  pub sound : IsSound c s
  pub there : vm_at s n ≡ Some v
  pub below : page < v.spec.max
  pub own : place_at v page ≡ Here bytes f shared
  pub slot : least_slot (tables_of c s).slots ≡ Some i

is_free : (row : SlotRow) → is_empty row ≡ true → row ≡ slots.Free
is_free slots.Free h = refl
is_free (slots.Held bytes) h = cc

free_slot : (c : Config) (s : Site) (i : ℕ) → least_slot (tables_of c s).slots ≡ Some i → (i < length (tables_of c s).slots) × (slot_at (tables_of c s).slots i ≡ slots.Free)
free_slot c s i found =
    let known = first_found is_empty (tables_of c s).slots i slots.Free found in
    (known.0, is_free (slot_at (tables_of c s).slots i) known.1)

-- the tables after it
out_shown : (c : Config) (s : Site) (n page : ℕ) (v : Vm) (bytes : List ℕ) (f : ℕ) (shared : Bool) (i : ℕ) (row : FrameRow) → GoesOut c s n page v bytes f shared i → frame_at (tables_of c s).frames f ≡ row
    → tables_of c (placed s n page (Out bytes i)) ≡ out_tables (tables_of c s) n page f i bytes (less row) (set (tables_of c s).listings f (listing_after (less row) (listing_at (tables_of c s).listings f))) (vm_table v)
out_shown c s n page v bytes f shared i row g at =
    let t : Tables = tables_of c s in
    let q : Place = Out bytes i in
    let fine = g.sound.each n v g.there in
    let within : page < length v.places = (let below = g.below in omega (arith, fine.pages, below)) in
    let P : Place → Type 0 = IsPlace c v.epoch in
    let place : IsPlace c v.epoch (Here bytes f shared) = subst P g.own (old_place c v page fine within) in
    let found : site.least_slot c.slots s ≡ Some i = sym (slot_found c s) ∙ g.slot in
    let w : Option VmRow = Some (vm_table (with_place page q v)) in
    placed_shown c s n page v q g.sound g.there g.below (here_past c v page fine (ap is_here g.own)) ((slot_unused c.slots s i found).0, place.1) (room_slot c s (place_at v page) bytes i found) (λ e. absurd (false≢true e))
    ∙ ap (λ p. put_vm (joined q (left p t)) n w) g.own
    ∙ ap (λ r. put_vm (joined q (put_frame t f (less r) (listing_after (less r) (listing_at t.listings f)))) n w) at
    ∙ ap (λ (r : VmRow). put_vm (joined q (put_frame t f (less row) (listing_after (less row) (listing_at t.listings f)))) n (Some r)) (page_put v page q)

frame_within : (c : Config) (s : Site) (n page : ℕ) (v : Vm) (bytes : List ℕ) (f : ℕ) (shared : Bool) (i : ℕ) → GoesOut c s n page v bytes f shared i → f < length (tables_of c s).frames
frame_within c s n page v bytes f shared i g =
    let below = frame_below c s bytes f shared g.sound (own_page s n page v bytes f shared g.there g.own) in
    let count = frame_count c s in
    omega (arith, count, below)

private_out : (c : Config) (s : Site) (n page : ℕ) (v : Vm) (bytes : List ℕ) (f i : ℕ) → GoesOut c s n page v bytes f false i → Makes c s (move_changes n page f i) (placed s n page (Out bytes i))
private_out c s n page v bytes f i g =
    let row = private_row_at c s n page v bytes f g.sound g.there g.own in
    let slot = free_slot c s i g.slot in
    move_made (tables_of c s) n page f i bytes (vm_table v) (row_is c s n v g.there) (frame_within c s n page v bytes f false i g) slot.0 row slot.1
    ∙ sym (out_shown c s n page v bytes f false i (frames.Private bytes) g row)

-- a frame that is shared by more stays, and by this page alone it is freed
shared_out : (c : Config) (s : Site) (n page : ℕ) (v : Vm) (bytes : List ℕ) (f i count : ℕ) → GoesOut c s n page v bytes f true i → frame_at (tables_of c s).frames f ≡ frames.Shared count bytes
    → (b : Bool) → nat_lt 1 count ≡ b → Makes c s (out_changes n page f i (frames.Shared count bytes)) (placed s n page (Out bytes i))
unfolding exchanged traded
shared_out c s n page v bytes f i count g row true more =
    let t : Tables = tables_of c s in
    let stays : less (frames.Shared count bytes) ≡ frames.Shared (count - 1) bytes = ap (λ b. cond b (frames.Shared (count - 1) bytes) frames.Free) more in
    ap (λ b. (exchanged t (cond b (copy_changes n page f i (count - 1) bytes) (last_changes n page f i))).0) more
    ∙ copy_made t n page f i count (count - 1) bytes (vm_table v) (row_is c s n v g.there) row
    ∙ sym (
    out_shown c s n page v bytes f true i (frames.Shared count bytes) g row
    ∙ ap (λ r. out_tables t n page f i bytes r (set t.listings f (listing_after r (listing_at t.listings f))) (vm_table v)) stays
    ∙ ap (λ (ls : List Listing). out_tables t n page f i bytes (frames.Shared (count - 1) bytes) ls (vm_table v)) (set-get_or t.listings f listings.Unlisted))
shared_out c s n page v bytes f i count g row false more =
    let t : Tables = tables_of c s in
    let u : Tables = record t { frames = set t.frames f (frames.Private bytes) } in
    let slot = free_slot c s i g.slot in
    let inside = frame_within c s n page v bytes f true i g in
    let goes : less (frames.Shared count bytes) ≡ frames.Free = ap (λ b. cond b (frames.Shared (count - 1) bytes) frames.Free) more in
    ap (λ b. (exchanged t (cond b (copy_changes n page f i (count - 1) bytes) (last_changes n page f i))).0) more
    ∙ ap (λ r. (exchanged (record t { frames = set t.frames f (mark_traded r marks.Private).0 }) (move_changes n page f i)).0) row
    ∙ move_made u n page f i bytes (vm_table v) (row_is c s n v g.there) (let len = length-set t.frames f (frames.Private bytes) in omega (arith, len, inside)) slot.0 (get_or-set_same t.frames f (frames.Private bytes) frames.Free inside) slot.1
    ∙ ap (λ (fs : List FrameRow). put_vm (record t { frames = fs; slots = set t.slots i (slots.Held bytes); listings = set t.listings f listings.Unlisted }) n (Some (with_page (vm_table v) page (maps.Out i)))) (set-set t.frames f (frames.Private bytes) frames.Free)
    ∙ sym (
    out_shown c s n page v bytes f true i (frames.Shared count bytes) g row
    ∙ ap (λ r. out_tables t n page f i bytes r (set t.listings f (listing_after r (listing_at t.listings f))) (vm_table v)) goes)

-- The page goes to the least free slot, where there is one.

slot_refines : (c : Config) (s : Site) (n page : ℕ) (v : Vm) (bytes : List ℕ) (f : ℕ) (shared : Bool) → IsSound c s → vm_at s n ≡ Some v → page < v.spec.max → place_at v page ≡ Here bytes f shared
    → Refines c s (to_slot n page f (frame_at (tables_of c s).frames f) (least_slot (tables_of c s).slots)) (model.to_slot s n page bytes (site.least_slot c.slots s))
slot_refines c s n page v bytes f shared sound there below was =
    found_same c s (least_slot (tables_of c s).slots) (site.least_slot c.slots s) (to_slot n page f (frame_at (tables_of c s).frames f)) (model.to_slot s n page bytes) (slot_found c s)
    (λ o found. of o (slot_found c s ∙ found) shared was)
  where
    of : (o : Option ℕ) → least_slot (tables_of c s).slots ≡ o → (shared : Bool) → place_at v page ≡ Here bytes f shared → Refines c s (to_slot n page f (frame_at (tables_of c s).frames f) o) (model.to_slot s n page bytes o)
    of None found shared was = refl
    of (Some i) found false was =
        let P : FrameRow → Type 0 = λ r. Makes c s (out_changes n page f i r) (placed s n page (Out bytes i)) in
        (refl, subst P (sym (private_row_at c s n page v bytes f sound there was)) (private_out c s n page v bytes f i (record { sound = sound; there = there; below = below; own = was; slot = found })))
    of (Some i) found true was =
        let P : FrameRow → Type 0 = λ r. Makes c s (out_changes n page f i r) (placed s n page (Out bytes i)) in
        let inside = own_page s n page v bytes f true there was in
        let row = frame_shared c s bytes f sound inside in
        let at = row_at_frame c s f (frame_below c s bytes f true sound inside) ∙ row.1 in
        (refl, subst P (sym at) (shared_out c s n page v bytes f i row.0 (record { sound = sound; there = there; below = below; own = was; slot = found }) at (nat_lt 1 row.0) refl))

-- The page is shared, or goes to a slot.

-- the key that is read of the row of its frame is that of its bytes
look_makes_at : (c : Config) (s : Site) (n page : ℕ) (v : Vm) (bytes : List ℕ) (f : ℕ) (l : Look) → IsSound c s → vm_at s n ≡ Some v → page < v.spec.max → place_at v page ≡ Here bytes f false → Sees s n page bytes l
    → Makes c s (look_changes (tables_of c s) n page f (key_in (frame_at (tables_of c s).frames f)) l) (after_look s n page bytes l)
look_makes_at c s n page v bytes f l sound there below was sees =
    let P : ℕ → Type 0 = λ key. Makes c s (look_changes (tables_of c s) n page f key l) (after_look s n page bytes l) in
    subst P (sym (ap key_in (private_row_at c s n page v bytes f sound there was))) (look_makes c s n page v bytes f l sound there below was sees)

leave_private : (c : Config) (s : Site) (n page : ℕ) (v : Vm) (bytes : List ℕ) (f : ℕ) (l : Look) → IsSound c s → vm_at s n ≡ Some v → page < v.spec.max → place_at v page ≡ Here bytes f false → Sees s n page bytes l
    → Refines c s (leave_by (tables_of c s) n page f (frame_at (tables_of c s).frames f) l) (model.leave_by c s n page bytes l)
leave_private c s n page v bytes f Already sound there below was sees = slot_refines c s n page v bytes f false sound there below was
leave_private c s n page v bytes f Changed sound there below was sees = slot_refines c s n page v bytes f false sound there below was
leave_private c s n page v bytes f OtherBytes sound there below was sees = slot_refines c s n page v bytes f false sound there below was
leave_private c s n page v bytes f Nothing sound there below was sees = slot_refines c s n page v bytes f false sound there below was
leave_private c s n page v bytes f (SharedFrame g) sound there below was sees =
    (refl, look_makes_at c s n page v bytes f (SharedFrame g) sound there below was sees)
leave_private c s n page v bytes f (OtherPage m q g) sound there below was sees =
    (refl, look_makes_at c s n page v bytes f (OtherPage m q g) sound there below was sees)

leave_here : (c : Config) (s : Site) (n page : ℕ) (v : Vm) (p : Place) → IsSound c s → vm_at s n ≡ Some v → page < v.spec.max → place_at v page ≡ p → is_here p ≡ true
    → Refines c s (leave_row (tables_of c s) n page (raw_place p)) (model.leave_by c s n page (contents c p) (look s n page p))
unfolding look
leave_here c s n page v Untouched sound there below was here = cc
leave_here c s n page v (Out bytes i) sound there below was here = cc
leave_here c s n page v (Lent e) sound there below was here = cc
leave_here c s n page v (Here bytes f true) sound there below was here =
    let t : Tables = tables_of c s in
    let P : Look → Type 0 = λ l. Refines c s (leave_by t n page f (frame_at t.frames f) l) (model.to_slot s n page bytes (site.least_slot c.slots s)) in
    subst P (sym (look_shown c s n page v bytes f true sound there was)) (slot_refines c s n page v bytes f true sound there below was)
leave_here c s n page v (Here bytes f false) sound there below was here =
    let t : Tables = tables_of c s in
    let l = look s n page (Here bytes f false) in
    let P : Look → Type 0 = λ x. Refines c s (leave_by t n page f (frame_at t.frames f) x) (model.leave_by c s n page bytes l) in
    subst P (sym (look_shown c s n page v bytes f false sound there was)) (leave_private c s n page v bytes f l sound there below was (look_sees c s n page (Here bytes f false) sound))

leave_refines : (c : Config) (s : Site) (n word : ℕ) (v : Vm) (o : Option ℕ) → IsSound c s → vm_at s n ≡ Some v → victim v word ≡ o → Refines c s (leave (tables_of c s) n (vm_table v) o) (model.leave c s n v o)
leave_refines c s n word v None sound there drawn = refl
leave_refines c s n word v (Some page) sound there drawn =
    let known = drawn_is_here v word page drawn in
    let fine = sound.each n v there in
    let within = known.0 in
    let P : MapRow → Type 0 = λ row. Refines c s (leave_row (tables_of c s) n page row) (model.leave c s n v (Some page)) in
    subst P (sym (page_row v page)) (leave_here c s n page v (place_at v page) sound there (omega (arith, fine.pages, within)) refl known.1)

pub swap_out_refines : (c : Config) (s : Site) (level : Level) (n word : ℕ) → IsSound c s → Refines c s (swap_out_plan (tables_of c s) level n word) (swap_out c s level n word)
unfolding swap_out swap_out_plan
swap_out_refines c s level n word sound = needs_vm c s n _ _ (λ v there. passes_same c s _ _ _ _ (ap (swap_out_gate level) (standing_shown v)) (λ pass.
    found_same c s (drawn_page (vm_table v) word) (victim v word) (leave (tables_of c s) n (vm_table v)) (model.leave c s n v) (drawn_found v word) (λ o found.
    leave_refines c s n word v o sound there found)))
