-- Reads and writes.
use Rattle.std.proofs.Common.{◌≡◌, ℕ, ◌+◌, ◌-◌, ◌<◌, ◌≤◌, Bool, true, false, ◌||◌, nat_lt, nat_le, List, [], ◌∷◌, ◌++◌, length, set, refl, ap, sym, ◌∙◌, cond, Option, Some, None, Ok, subst, arith, ◌==◌}
use Rattle.std.proofs.lemmas.Bool.Decides.{nat_tests}
use Rattle.std.proofs.lemmas.Grind.{common_steps}
use Rattle.std.proofs.lemmas.List.{set-get_or, set-set, get_or-set_same}
use Rattle.std.proofs.lemmas.List.FromFn.{length-map-range_with_len}
use Rattle.esx_lists.proofs.Trades.{part_fits, fits_when}
use Rattle.esx_frames.specs.declared.marks.Mark.TheVariants as marks
use Rattle.esx_frames.specs.Marks.{slot_traded_at, slot_traded, bytes_traded, bytes_traded_at, mark_traded}
use Rattle.esx_types.specs.declared.config.Config.{Config}
use Rattle.esx_types.specs.declared.level.Level.{Level}
use Rattle.esx_types.specs.declared.table.FrameRow.{FrameRow}
use Rattle.esx_types.specs.declared.table.FrameRow.TheVariants as frames
use Rattle.esx_types.specs.declared.table.SlotRow.{SlotRow}
use Rattle.esx_types.specs.declared.table.SlotRow.TheVariants as slots
use Rattle.esx_types.specs.declared.table.Listing.{Listing}
use Rattle.esx_types.specs.declared.table.Listing.TheVariants as listings
use Rattle.esx_types.specs.declared.table.MapRow.{MapRow}
use Rattle.esx_types.specs.declared.table.MapRow.TheVariants as maps
use Rattle.esx_types.specs.declared.vm.VmState.TheVariants.{Running}
use Rattle.esx_types.specs.Frames.{frame_at, bytes_of, least_frame}
use Rattle.esx_types.specs.Slots.{slot_at, held_bytes}
use Rattle.esx_types.specs.Listings.{listing_at}
use Rattle.esx_events.specs.declared.event.Answer.{Answer}
use Rattle.esx_events.specs.declared.event.Answer.TheVariants as answers
use Rattle.esx_model.specs.declared.scene.Place.{Place}
use Rattle.esx_model.specs.declared.scene.Place.TheVariants.{Untouched, Here, Out, Lent}
use Rattle.esx_model.specs.declared.scene.Vm.{Vm}
use Rattle.esx_model.specs.declared.scene.Site.{Site}
use Rattle.esx_model.specs.declared.look.Standing.{Standing}
use Rattle.esx_model.specs.declared.book.VmRow.{VmRow}
use Rattle.esx_model.specs.declared.tables.Tables.{Tables}
use Rattle.esx_model.specs.Places.{is_private, zeros}
use Rattle.esx_model.specs.Site.{with_vm, place_at, place_in, place_of, pages_at, least_free}
use Rattle.esx_model.specs.Show.{frame_row, frame_rows, slot_rows}
use Rattle.esx_types.specs.declared.table.Hint.{Hint}
use Rattle.esx_model.specs.Hints.{with_place, with_change, placed, hints_at}
use Rattle.esx_model.specs.Tables.{raw_place, vm_table, tables_of}
use Rattle.esx_model.specs.Moved.{put_vm, less, listing_after, left, joined}
use Rattle.esx_model.specs.sound.Machines.{IsPlace}
use Rattle.esx_model.specs.event.Balloon.{popped}
use Rattle.esx_model.specs.event.Sampling.{counted}
use Rattle.esx_model.specs.event.Access.{access_gate, overwritten, after_access, settle, read_at, write_at, read, write}
use Rattle.esx_model.specs.sound.Sound.{IsSound}
use Rattle.esx_model.proofs.Callers.{Room, write_room, whole_page, access_shown, access_in_place_shown, row_only_shown, counted_kept, with_change_is, placed_is, no_hint, not_not, runs, least_unused, room_free}
use Rattle.esx_tables.specs.declared.change.Change.{Change}
use Rattle.esx_tables.specs.declared.change.Change.TheVariants.{FrameAt, MarkAt, BytesAt, ListingAt, FrameWithSlot}
use Rattle.esx_tables.specs.Changes.{slots_traded, traded, exchanged}
use Rattle.esx_tables.specs.Readings.{row_at}
use Rattle.esx_refinement.specs.Refinement.{Refines}
use Rattle.esx_changes.specs.Counted.{counted_parts}
use Rattle.esx_access.specs.Access.{come_parts, come_changes, stay_changes, come, told, read_zeros, read_slot, read_from, read_plan, write_zeros, write_slot, write_own, write_copy, write_last, write_frame, write_from, write_plan}
use Rattle.esx_refinement.proofs.Refining.{row_is, page_row, needs_vm, passes_same, found_same, standing_shown, makes_shown}
use Rattle.esx_refinement.proofs.Made.{exchanged_then, parts_made}
use Rattle.esx_refinement.proofs.Found.{frame_found}
use Rattle.esx_refinement.proofs.Counted.{counted_shown}
use Rattle.esx_refinement.proofs.Held.{Finds, page_within, page_place, private_there, shared_there, held_there, frame_count, slot_count, free_there, free_unlisted}
use Rattle.esx_refinement.proofs.Moved.{not_lent, come_row, stay_row}

-- Bytes of a frame.

brought : (rows : List FrameRow) (held : List SlotRow) (f i : ℕ) (bytes : List ℕ) → nat_lt f (length rows) ≡ true → nat_lt i (length held) ≡ true → frame_at rows f ≡ frames.Free → slot_at held i ≡ slots.Held bytes
    → slots_traded f i rows held ≡ (set rows f (frames.Private bytes), set held i slots.Free)
unfolding slots_traded
brought rows held f i bytes low_frame low_slot free is =
    let x : SlotRow = slot_at held i in
    let pair : slot_traded (frame_at rows f) x ≡ (frames.Private bytes, slots.Free) = ap (λ (r : FrameRow). slot_traded r x) free ∙ ap (slot_traded frames.Free) is in
    let none : SlotRow = slots.Free in
    let now : slot_traded_at f rows x ≡ (set rows f (frames.Private bytes), none) =
    ap (λ (b : Bool). cond b (set rows f (slot_traded (frame_at rows f) x).0, (slot_traded (frame_at rows f) x).1) (rows, x)) low_frame
    ∙ ap (λ (r : FrameRow × SlotRow). (set rows f r.0, r.1)) pair in
    ap (λ (b : Bool). cond b ((slot_traded_at f rows x).0, set held i (slot_traded_at f rows x).1) (rows, held)) low_slot
    ∙ ap (λ (r : List FrameRow × SlotRow). (r.0, set held i r.1)) now

written : (rows : List FrameRow) (f : ℕ) (old : List ℕ) (at : ℕ) (new : List ℕ) → frame_at rows f ≡ frames.Private old → at + length new ≤ length old
    → (bytes_traded_at f at rows new).0 ≡ set rows f (frames.Private (overwritten old at new))
written rows f old at new there fits =
    ap (λ (r : FrameRow). set rows f (bytes_traded at r new).0) there
    ∙ ap (λ (x : List ℕ × List ℕ). set rows f (frames.Private x.0)) (part_fits old at new (fits_when old at new fits))

-- bytes written over those that just came
written_again : (rows : List FrameRow) (f : ℕ) (old : List ℕ) (at : ℕ) (new : List ℕ) → f < length rows → at + length new ≤ length old
    → (bytes_traded_at f at (set rows f (frames.Private old)) new).0 ≡ set rows f (frames.Private (overwritten old at new))
written_again rows f old at new below fits =
    written (set rows f (frames.Private old)) f old at new (get_or-set_same rows f (frames.Private old) frames.Free below) fits
    ∙ set-set rows f (frames.Private old) (frames.Private (overwritten old at new))

whole_after : (old : List ℕ) (at : ℕ) (new : List ℕ) → at + length new ≤ length old → length (overwritten old at new) ≡ length old
whole_after old at new fits = grind (arith, common_steps)

frame_below : (c : Config) (s : Site) (f : ℕ) → f < c.frames → f < length (frame_rows c.frames s)
frame_below c s f below = (let same = length-map-range_with_len (frame_row s) 0 c.frames in omega (arith, same))

-- Where the page comes to a frame.

module _ (c : Config) (s : Site) (n page : ℕ) (v : Vm) where
  abbrev after : List ℕ → ℕ → Bool → VmRow
  after bytes f shared = vm_table (counted page (with_place page (Here bytes f shared) (popped page v)))

  come_shown : (p : Place) (bytes : List ℕ) (f : ℕ) → Finds c s n page v p → v.state ≡ Running → f < c.frames → length bytes ≡ c.page → Room c s p (Here bytes f false) → is_private p ≡ false
      → tables_of c (after_access s n page (Here bytes f false)) ≡ put_vm (joined (Here bytes f false) (left p (tables_of c s))) n (Some (after bytes f false))
  come_shown p bytes f h running below whole room fresh =
      let q : Place = Here bytes f false in
      let P : Place → Type 0 = λ x. Room c s x q → is_private x ≡ false → tables_of c (after_access s n page q) ≡ put_vm (joined q (left x (tables_of c s))) n (Some (after bytes f false)) in
      subst P h.was (λ r e. access_shown c s n page v bytes f false h.sound h.there running h.below below whole r (λ same. e)) room fresh

  -- changes of frames, slots and listings that make what the page leaves and where it comes, and then those of the row
  comes : (p : Place) (a : Answer) (bytes : List ℕ) (f : ℕ) (head : List Change) → Finds c s n page v p → v.state ≡ Running → f < c.frames → length bytes ≡ c.page → Room c s p (Here bytes f false) → is_private p ≡ false
      → (exchanged (tables_of c s) head).0 ≡ joined (Here bytes f false) (left p (tables_of c s)) → row_at (joined (Here bytes f false) (left p (tables_of c s))) n ≡ Some (vm_table v)
      → Refines c s (Ok (a, head ++ come_changes n (vm_table v) page (raw_place p) f)) (Ok (a, after_access s n page (Here bytes f false)))
  comes p a bytes f head h running below whole room fresh made row =
      let q : Place = Here bytes f false in
      let first : Tables = joined q (left p (tables_of c s)) in
      let rest : List Change = come_changes n (vm_table v) page (raw_place p) f in
      makes_shown c s a (head ++ rest) (after_access s n page q) (put_vm first n (Some (after bytes f false)))
      (exchanged_then (tables_of c s) head rest
      ∙ ap (λ (t : Tables). (exchanged t rest).0) made
      ∙ parts_made first n (vm_table v) (come_parts (vm_table v) page (raw_place p) f) row
      ∙ ap (λ (r : VmRow). put_vm first n (Some r)) (come_row v page p bytes f false h.was))
      (come_shown p bytes f h running below whole room fresh)

  -- where it comes to the least frame that is free, if there is one
  comes_to_least : (a : Answer) (bytes : List ℕ) (to : ℕ → Answer × List Change) → ((f : ℕ) → least_free c.frames s ≡ Some f → Refines c s (Ok (to f)) (Ok (a, after_access s n page (Here bytes f false))))
      → Refines c s (come to (least_frame (tables_of c s).frames)) (settle s n page a bytes false (least_free c.frames s))
  comes_to_least a bytes to one = found_same c s (least_frame (tables_of c s).frames) (least_free c.frames s) (come to) (settle s n page a bytes false) (frame_found c s) (λ o found. of o found)
    where
      of : (o : Option ℕ) → least_free c.frames s ≡ o → Refines c s (come to o) (settle s n page a bytes false o)
      of None found = refl
      of (Some f) found = one f found

  -- Where it stays in its frame, as it is.

  same_hints : (bytes : List ℕ) (f : ℕ) (shared : Bool) → Finds c s n page v (Here bytes f shared) → hints_at n page (Here bytes f shared) s.hints ≡ s.hints
  same_hints bytes f false h = refl
  same_hints bytes f true h = no_hint (place_of s) n page s.hints h.sound.hints (ap (λ (o : Option Vm). is_private (place_in o page)) h.there ∙ ap is_private h.was)

  stays : (bytes : List ℕ) (f : ℕ) (shared : Bool) → Finds c s n page v (Here bytes f shared) → after_access s n page (Here bytes f shared) ≡ with_vm s n (counted page v)
  stays bytes f shared h =
      let q : Place = Here bytes f shared in
      let same_vm : with_vm s n v ≡ s =
      ap (λ (o : Option Vm). record s { vms = set s.vms n o }) (sym h.there) ∙ ap (λ (vms : List (Option Vm)). record s { vms = vms }) (set-get_or s.vms n None) in
      let same_place : with_place page q v ≡ v =
      ap (λ (ps : List Place). record v { places = ps }) (ap (λ (x : Place). set v.places page x) (sym h.was) ∙ set-get_or v.places page Untouched) in
      let none_lent : popped page v ≡ v = ap (λ (b : Bool). record v { due = b }) (sym (not_lent v page q h.was refl)) in
      ap (λ (t : Site). with_change (placed t n page q) n (counted page)) (with_change_is s n v (popped page) h.there ∙ ap (with_vm s n) none_lent ∙ same_vm)
      ∙ ap (λ (t : Site). with_change t n (counted page))
      (placed_is s n page v q h.there ∙ ap (λ (hints : List Hint). record s { vms = set s.vms n (Some (with_place page q v)); hints = hints }) (same_hints bytes f shared h)
      ∙ ap (with_vm s n) same_place ∙ same_vm)
      ∙ with_change_is s n v (counted page) h.there

  stay_refines : (a : Answer) (bytes : List ℕ) (f : ℕ) (shared : Bool) → Finds c s n page v (Here bytes f shared) → v.state ≡ Running
      → Refines c s (Ok (a, stay_changes n (vm_table v) page)) (Ok (a, after_access s n page (Here bytes f shared)))
  stay_refines a bytes f shared h running =
      let t = tables_of c s in
      let kept = counted_kept c v page (h.sound.each n v h.there) running h.below in
      makes_shown c s a (stay_changes n (vm_table v) page) (after_access s n page (Here bytes f shared)) (put_vm t n (Some (vm_table (counted page v))))
      (parts_made t n (vm_table v) (counted_parts (vm_table v) page) (row_is c s n v h.there) ∙ ap (λ (r : VmRow). put_vm t n (Some r)) (counted_shown v page))
      (ap (tables_of c) (stays bytes f shared h) ∙ row_only_shown c s n v (counted page v) h.there kept.places kept.overhead)

  -- What the first changes make.

  -- a page that nobody has written takes a free frame
  taken_made : (bytes : List ℕ) (f : ℕ) → least_free c.frames s ≡ Some f → (exchanged (tables_of c s) (FrameAt f (frames.Private bytes) ∷ [])).0 ≡ joined (Here bytes f false) (tables_of c s)
  unfolding exchanged traded
  taken_made bytes f found =
      let t = tables_of c s in
      ap (λ (ls : List Listing). record t { frames = set t.frames f (frames.Private bytes); listings = ls }) (sym (free_unlisted c s f found))

  -- a page comes from its slot
  abbrev fetched : ℕ → ℕ → List ℕ → Tables
  fetched f i bytes = record (tables_of c s) { frames = set (frame_rows c.frames s) f (frames.Private bytes); slots = set (slot_rows c.slots s) i slots.Free }

  slot_made : (old : List ℕ) (i f : ℕ) → Finds c s n page v (Out old i) → least_free c.frames s ≡ Some f → (traded (tables_of c s) (FrameWithSlot f i)).0 ≡ fetched f i old
  unfolding traded
  slot_made old i f h found =
      let t = tables_of c s in
      let place : IsPlace c v.epoch (Out old i) = page_place c s n page v (Out old i) h in
      let unused = least_unused c.frames s f found in
      ap (λ (r : List FrameRow × List SlotRow). record t { frames = r.0; slots = r.1 })
      (brought t.frames t.slots f i old (frame_count c s f unused.below) (slot_count c s i place.0) (free_there c s f found) (held_there c s n page v old i h))

  fetched_made : (old : List ℕ) (i f : ℕ) → Finds c s n page v (Out old i) → least_free c.frames s ≡ Some f → (exchanged (tables_of c s) (FrameWithSlot f i ∷ [])).0 ≡ joined (Here old f false) (left (Out old i) (tables_of c s))
  unfolding exchanged
  fetched_made old i f h found = slot_made old i f h found ∙ ap (λ (ls : List Listing). record (fetched f i old) { listings = ls }) (sym (free_unlisted c s f found))

  fetched_written : (old new : List ℕ) (at i f : ℕ) → Finds c s n page v (Out old i) → least_free c.frames s ≡ Some f → at + length new ≤ length old
      → (exchanged (tables_of c s) (FrameWithSlot f i ∷ BytesAt f at new ∷ [])).0 ≡ joined (Here (overwritten old at new) f false) (left (Out old i) (tables_of c s))
  unfolding exchanged traded
  fetched_written old new at i f h found fits =
      let rows = frame_rows c.frames s in
      let new_rows = set rows f (frames.Private (overwritten old at new)) in
      ap (λ (t : Tables). (traded t (BytesAt f at new)).0) (slot_made old i f h found)
      ∙ ap (λ (xs : List FrameRow). record (fetched f i old) { frames = xs }) (written_again rows f old at new (frame_below c s f (least_unused c.frames s f found).below) fits)
      ∙ ap (λ (ls : List Listing). record (fetched f i old) { frames = new_rows; listings = ls }) (sym (free_unlisted c s f found))

  -- a page that shares its frame leaves it, and a copy takes a free one
  copied_made : (old new : List ℕ) (g f : ℕ) → Finds c s n page v (Here old g true) → least_free c.frames s ≡ Some f → nat_lt 1 (pages_at g s) ≡ true
      → (exchanged (tables_of c s) (MarkAt g (marks.Shared (pages_at g s - 1)) ∷ FrameAt f (frames.Private new) ∷ [])).0 ≡ joined (Here new f false) (left (Here old g true) (tables_of c s))
  unfolding exchanged traded
  copied_made old new g f h found many =
      let t = tables_of c s in
      let k = pages_at g s in
      let row = shared_there c s n page v old g h in
      let one_less : less (frame_at t.frames g) ≡ frames.Shared (k - 1) old = ap less row ∙ ap (λ (b : Bool). cond b (frames.Shared (k - 1) old) frames.Free) many in
      let rows : List FrameRow = set (set t.frames g (frames.Shared (k - 1) old)) f (frames.Private new) in
      ap (λ (r : FrameRow). record t { frames = set (set t.frames g (mark_traded r (marks.Shared (k - 1))).0) f (frames.Private new) }) row
      ∙ ap (λ (ls : List Listing). record t { frames = rows; listings = ls }) (sym (free_unlisted c s f found))
      ∙ ap (λ (ls : List Listing). record t { frames = rows; listings = set ls f listings.Unlisted }) (sym (set-get_or t.listings g listings.Unlisted))
      ∙ ap (λ (r : FrameRow). record t { frames = set (set t.frames g r) f (frames.Private new); listings = set (set t.listings g (listing_after r (listing_at t.listings g))) f listings.Unlisted }) (sym one_less)

  -- the last page of a shared frame has it for itself
  own_made : (old new : List ℕ) (at f : ℕ) → Finds c s n page v (Here old f true) → nat_lt 1 (pages_at f s) ≡ false → at + length new ≤ length old
      → (exchanged (tables_of c s) (MarkAt f marks.Private ∷ ListingAt f listings.Unlisted ∷ BytesAt f at new ∷ [])).0 ≡ joined (Here (overwritten old at new) f false) (left (Here old f true) (tables_of c s))
  unfolding exchanged traded
  own_made old new at f h last fits =
      let t = tables_of c s in
      let place : IsPlace c v.epoch (Here old f true) = page_place c s n page v (Here old f true) h in
      let k = pages_at f s in
      let row = shared_there c s n page v old f h in
      let none : less (frame_at t.frames f) ≡ frames.Free = ap less row ∙ ap (λ (b : Bool). cond b (frames.Shared (k - 1) old) frames.Free) last in
      let whole = frames.Private (overwritten old at new) in
      let rows : List FrameRow = set t.frames f whole in
      ap (λ (r : FrameRow). record t { frames = (bytes_traded_at f at (set t.frames f (mark_traded r marks.Private).0) new).0; listings = set t.listings f listings.Unlisted }) row
      ∙ ap (λ (xs : List FrameRow). record t { frames = xs; listings = set t.listings f listings.Unlisted }) (written_again t.frames f old at new (frame_below c s f place.0) fits)
      ∙ ap (λ (ls : List Listing). record t { frames = rows; listings = ls }) (sym (set-set t.listings f listings.Unlisted listings.Unlisted))
      ∙ ap (λ (xs : List FrameRow). record t { frames = xs; listings = set (set t.listings f listings.Unlisted) f listings.Unlisted }) (sym (set-set t.frames f frames.Free whole))
      ∙ ap (λ (r : FrameRow). record t { frames = set (set t.frames f r) f whole; listings = set (set t.listings f (listing_after r (listing_at t.listings f))) f listings.Unlisted }) (sym none)

  -- A read.

  bytes_there : (bytes : List ℕ) (f : ℕ) (shared : Bool) → Finds c s n page v (Here bytes f shared) → bytes_of (frame_at (tables_of c s).frames f) ≡ bytes
  bytes_there bytes f false h = ap bytes_of (private_there c s n page v bytes f h)
  bytes_there bytes f true h = ap bytes_of (shared_there c s n page v bytes f h)

  -- a page that is nowhere yet comes as zeros
  read_new : (at len : ℕ) (p : Place) → Finds c s n page v p → v.state ≡ Running → length (zeros c) ≡ c.page → is_private p ≡ false → ((f : ℕ) → least_free c.frames s ≡ Some f → Room c s p (Here (zeros c) f false))
      → ((f : ℕ) → least_free c.frames s ≡ Some f → (exchanged (tables_of c s) (FrameAt f (frames.Private (zeros c)) ∷ [])).0 ≡ joined (Here (zeros c) f false) (left p (tables_of c s)))
      → ((f : ℕ) → row_at (joined (Here (zeros c) f false) (left p (tables_of c s))) n ≡ Some (vm_table v))
      → Refines c s (come (read_zeros c n (vm_table v) page at len (raw_place p)) (least_frame (tables_of c s).frames)) (settle s n page (told at len (zeros c)) (zeros c) false (least_free c.frames s))
  read_new at len p h running whole fresh room made row =
      comes_to_least (told at len (zeros c)) (zeros c) (read_zeros c n (vm_table v) page at len (raw_place p)) (λ f found.
      comes p (told at len (zeros c)) (zeros c) f (FrameAt f (frames.Private (zeros c)) ∷ []) h running (least_unused c.frames s f found).below whole (room f found) fresh (made f found) (row f))

  read_made : (at len : ℕ) (p : Place) → Finds c s n page v p → v.state ≡ Running → Refines c s (read_from c (tables_of c s) n (vm_table v) page at len (raw_place p)) (read_at c s n page at len p)
  read_made at len Untouched h running =
      read_new at len Untouched h running (whole_page c v.epoch Untouched tt) refl (λ f found. room_free c s Untouched (zeros c) f found) (taken_made (zeros c)) (λ f. row_is c s n v h.there)
  read_made at len (Lent e) h running =
      read_new at len (Lent e) h running (whole_page c v.epoch Untouched tt) refl (λ f found. room_free c s (Lent e) (zeros c) f found) (taken_made (zeros c)) (λ f. row_is c s n v h.there)
  read_made at len (Here bytes f shared) h running =
      let t : Site = after_access s n page (Here bytes f shared) in
      let P : List ℕ → Type 0 = λ xs. Refines c s (Ok (told at len xs, stay_changes n (vm_table v) page)) (Ok (told at len bytes, t)) in
      subst P (sym (bytes_there bytes f shared h)) (stay_refines (told at len bytes) bytes f shared h running)
  read_made at len (Out bytes i) h running =
      comes_to_least (told at len bytes) bytes (read_slot (tables_of c s) n (vm_table v) page at len i) (λ f found.
      let P : List ℕ → Type 0 = λ xs. Refines c s (Ok (told at len xs, FrameWithSlot f i ∷ come_changes n (vm_table v) page (maps.Out i) f)) (Ok (told at len bytes, after_access s n page (Here bytes f false))) in
      subst P (sym (ap held_bytes (held_there c s n page v bytes i h)))
      (comes (Out bytes i) (told at len bytes) bytes f (FrameWithSlot f i ∷ []) h running (least_unused c.frames s f found).below (whole_page c v.epoch (Out bytes i) (page_place c s n page v (Out bytes i) h))
      (room_free c s (Out bytes i) bytes f found) refl (fetched_made bytes i f h found) (row_is c s n v h.there)))

  -- A write.

  write_whole : (old : List ℕ) (at : ℕ) (new : List ℕ) → length old ≡ c.page → at + length new ≤ c.page → length (overwritten old at new) ≡ c.page
  write_whole old at new whole fits = whole_after old at new (omega arith) ∙ whole

  write_new : (at : ℕ) (new : List ℕ) (p : Place) → at + length new ≤ c.page → Finds c s n page v p → v.state ≡ Running → length (zeros c) ≡ c.page → is_private p ≡ false
      → ((f : ℕ) → least_free c.frames s ≡ Some f → Room c s p (Here (overwritten (zeros c) at new) f false))
      → ((f : ℕ) → least_free c.frames s ≡ Some f → (exchanged (tables_of c s) (FrameAt f (frames.Private (overwritten (zeros c) at new)) ∷ [])).0 ≡ joined (Here (overwritten (zeros c) at new) f false) (left p (tables_of c s)))
      → ((f : ℕ) → row_at (joined (Here (overwritten (zeros c) at new) f false) (left p (tables_of c s))) n ≡ Some (vm_table v))
      → Refines c s (come (write_zeros c n (vm_table v) page at new (raw_place p)) (least_frame (tables_of c s).frames)) (settle s n page answers.Done (overwritten (zeros c) at new) false (least_free c.frames s))
  write_new at new p fits h running whole fresh room made row =
      let bytes : List ℕ = overwritten (zeros c) at new in
      comes_to_least answers.Done bytes (write_zeros c n (vm_table v) page at new (raw_place p)) (λ f found.
      comes p answers.Done bytes f (FrameAt f (frames.Private bytes) ∷ []) h running (least_unused c.frames s f found).below (write_whole (zeros c) at new whole fits) (room f found) fresh (made f found) (row f))

  -- a page that stays in its frame and is written there
  writes : (old bytes : List ℕ) (f : ℕ) (shared : Bool) (head : List Change) (first : Tables) → Finds c s n page v (Here old f shared) → (exchanged (tables_of c s) head).0 ≡ first → row_at first n ≡ Some (vm_table v)
      → tables_of c (after_access s n page (Here bytes f false)) ≡ put_vm first n (Some (after bytes f false))
      → Refines c s (Ok (answers.Done, head ++ stay_changes n (vm_table v) page)) (Ok (answers.Done, after_access s n page (Here bytes f false)))
  writes old bytes f shared head first h made row shown =
      let rest : List Change = stay_changes n (vm_table v) page in
      makes_shown c s answers.Done (head ++ rest) (after_access s n page (Here bytes f false)) (put_vm first n (Some (after bytes f false)))
      (exchanged_then (tables_of c s) head rest
      ∙ ap (λ (t : Tables). (exchanged t rest).0) made
      ∙ parts_made first n (vm_table v) (counted_parts (vm_table v) page) row
      ∙ ap (λ (r : VmRow). put_vm first n (Some r)) (stay_row v page old bytes f shared false h.was))
      shown

  write_alone : (at : ℕ) (new old : List ℕ) (f : ℕ) → at + length new ≤ c.page → Finds c s n page v (Here old f false) → v.state ≡ Running
      → Refines c s (Ok (write_own n (vm_table v) page at new f)) (Ok (answers.Done, after_access s n page (Here (overwritten old at new) f false)))
  unfolding exchanged traded
  write_alone at new old f fits h running =
      let t = tables_of c s in
      let bytes : List ℕ = overwritten old at new in
      let place : IsPlace c v.epoch (Here old f false) = page_place c s n page v (Here old f false) h in
      let room = write_room c s n page v (Here old f false) bytes f h.sound h.there (page_within c s n page v (Here old f false) h) h.was refl in
      writes old bytes f false (BytesAt f at new ∷ []) (record t { frames = set t.frames f (frames.Private bytes) }) h
      (ap (λ (xs : List FrameRow). record t { frames = xs }) (written t.frames f old at new (private_there c s n page v old f h) (let whole = place.1 in omega (arith, whole))))
      (row_is c s n v h.there)
      (access_in_place_shown c s n page v old f bytes h.sound h.there running h.below h.was (write_whole old at new place.1 fits) room.1)

  write_shared : (at : ℕ) (new old : List ℕ) (g : ℕ) → at + length new ≤ c.page → Finds c s n page v (Here old g true) → v.state ≡ Running → (b : Bool) → nat_lt 1 (pages_at g s) ≡ b
      → Refines c s (cond b (come (write_copy n (vm_table v) page at new g (pages_at g s) old) (least_frame (tables_of c s).frames)) (Ok (write_last n (vm_table v) page at new g)))
      (settle s n page answers.Done (overwritten old at new) false (cond b (least_free c.frames s) (Some g)))
  write_shared at new old g fits h running true many =
      let bytes : List ℕ = overwritten old at new in
      let p : Place = Here old g true in
      let place : IsPlace c v.epoch p = page_place c s n page v p h in
      comes_to_least answers.Done bytes (write_copy n (vm_table v) page at new g (pages_at g s) old) (λ f found.
      comes p answers.Done bytes f (MarkAt g (marks.Shared (pages_at g s - 1)) ∷ FrameAt f (frames.Private bytes) ∷ []) h running (least_unused c.frames s f found).below (write_whole old at new place.1 fits)
      (room_free c s p bytes f found) refl (copied_made old bytes g f h found many) (row_is c s n v h.there))
  write_shared at new old g fits h running false last =
      let bytes : List ℕ = overwritten old at new in
      let p : Place = Here old g true in
      let place : IsPlace c v.epoch p = page_place c s n page v p h in
      let room = write_room c s n page v p bytes g h.sound h.there (page_within c s n page v p h) h.was (ap (λ (b : Bool). cond b (least_free c.frames s) (Some g)) last) in
      writes old bytes g true (MarkAt g marks.Private ∷ ListingAt g listings.Unlisted ∷ BytesAt g at new ∷ []) (joined (Here bytes g false) (left p (tables_of c s))) h
      (own_made old new at g h last (let whole = place.1 in omega (arith, whole)))
      (row_is c s n v h.there)
      (come_shown p bytes g h running place.0 (write_whole old at new place.1 fits) room.1 refl)

  write_made : (at : ℕ) (new : List ℕ) (p : Place) → at + length new ≤ c.page → Finds c s n page v p → v.state ≡ Running → Refines c s (write_from c (tables_of c s) n (vm_table v) page at new (raw_place p)) (write_at c s n page at new p)
  write_made at new Untouched fits h running =
      write_new at new Untouched fits h running (whole_page c v.epoch Untouched tt) refl (λ f found. room_free c s Untouched (overwritten (zeros c) at new) f found) (taken_made (overwritten (zeros c) at new)) (λ f. row_is c s n v h.there)
  write_made at new (Lent e) fits h running =
      write_new at new (Lent e) fits h running (whole_page c v.epoch Untouched tt) refl (λ f found. room_free c s (Lent e) (overwritten (zeros c) at new) f found) (taken_made (overwritten (zeros c) at new)) (λ f. row_is c s n v h.there)
  write_made at new (Here old f false) fits h running =
      let t = tables_of c s in
      let P : FrameRow → Type 0 = λ row. Refines c s (write_frame t n (vm_table v) page at new f row) (write_at c s n page at new (Here old f false)) in
      subst P (sym (private_there c s n page v old f h)) (write_alone at new old f fits h running)
  write_made at new (Here old g true) fits h running =
      let t = tables_of c s in
      let P : FrameRow → Type 0 = λ row. Refines c s (write_frame t n (vm_table v) page at new g row) (write_at c s n page at new (Here old g true)) in
      subst P (sym (shared_there c s n page v old g h)) (write_shared at new old g fits h running (nat_lt 1 (pages_at g s)) refl)
  write_made at new (Out old i) fits h running =
      let bytes : List ℕ = overwritten old at new in
      let p : Place = Out old i in
      let place : IsPlace c v.epoch p = page_place c s n page v p h in
      comes_to_least answers.Done bytes (write_slot n (vm_table v) page at new i) (λ f found.
      comes p answers.Done bytes f (FrameWithSlot f i ∷ BytesAt f at new ∷ []) h running (least_unused c.frames s f found).below (write_whole old at new place.1 fits)
      (room_free c s p bytes f found) refl (fetched_written old new at i f h found (let whole = place.1 in omega (arith, whole))) (row_is c s n v h.there))

-- The gate.

below_max : (max page : ℕ) (a b : Bool) → ((nat_le max page || a) || b) ≡ false → page < max
below_max max page a b h = of (nat_le max page) refl h
  where
    of : (t : Bool) → nat_le max page ≡ t → ((t || a) || b) ≡ false → page < max
    of true e k = cc
    of false e k = grind (arith, nat_tests)

fits_page : (page last : ℕ) (a : Bool) → (a || nat_lt page last) ≡ false → last ≤ page
fits_page page last true h = cc
fits_page page last false h = grind (arith, nat_tests)

pub read_refines : (c : Config) (s : Site) (level : Level) (n page at len : ℕ) → IsSound c s → Refines c s (read_plan c (tables_of c s) level n page at len) (read c s level n page at len)
unfolding read read_plan
read_refines c s level n page at len sound = needs_vm c s n _ _ (λ v there. passes_same c s _ _ _ _ (ap (λ (m : Standing). access_gate c level m page at len) (standing_shown v)) (λ pass.
    let below : page < v.spec.max = below_max v.spec.max page (len == 0) (nat_lt c.page (at + len)) pass.1.0 in
    let P : MapRow → Type 0 = λ row. Refines c s (read_from c (tables_of c s) n (vm_table v) page at len row) (read_at c s n page at len (place_at v page)) in
    subst P (sym (page_row v page)) (read_made c s n page v at len (place_at v page) (record { sound = sound; there = there; below = below; was = refl }) (runs v.state (not_not _ pass.0)))))

pub write_refines : (c : Config) (s : Site) (level : Level) (n page at : ℕ) (new : List ℕ) → IsSound c s → Refines c s (write_plan c (tables_of c s) level n page at new) (write c s level n page at new)
unfolding write write_plan
write_refines c s level n page at new sound = needs_vm c s n _ _ (λ v there. passes_same c s _ _ _ _ (ap (λ (m : Standing). access_gate c level m page at (length new)) (standing_shown v)) (λ pass.
    let below : page < v.spec.max = below_max v.spec.max page (length new == 0) (nat_lt c.page (at + length new)) pass.1.0 in
    let fits : at + length new ≤ c.page = fits_page c.page (at + length new) (nat_le v.spec.max page || (length new == 0)) pass.1.0 in
    let P : MapRow → Type 0 = λ row. Refines c s (write_from c (tables_of c s) n (vm_table v) page at new row) (write_at c s n page at new (place_at v page)) in
    subst P (sym (page_row v page)) (write_made c s n page v at new (place_at v page) fits (record { sound = sound; there = there; below = below; was = refl }) (runs v.state (not_not _ pass.0)))))
