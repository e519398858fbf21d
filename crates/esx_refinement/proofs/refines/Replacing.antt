-- The replacement.
use Rattle.std.proofs.Common.{◌≡◌, ℕ, ◌<◌, ◌≤◌, Bool, true, false, ◌||◌, nat_lt, nat_le, ◌==◌, ◌-◌, List, [], ◌∷◌, ◌++◌, length, map, set, refl, ap, sym, ◌∙◌, cond, Option, Some, None, subst, arith}
use Rattle.std.specs.List.{list_any}
use Rattle.std.specs.Prelude.{count_by}
use Rattle.std.proofs.lemmas.Bool.Decides.{nat_tests}
use Rattle.std.proofs.lemmas.List.{map-set, set-set, get_or-set_same, length-set}
use Rattle.esx_lists.specs.Trades.{in_turn}
use Rattle.esx_frames.specs.declared.marks.Mark.TheVariants as marks
use Rattle.esx_frames.specs.Marks.{slot_traded_at, slot_traded, mark_traded}
use Rattle.esx_types.specs.declared.config.Config.{Config}
use Rattle.esx_types.specs.declared.table.FrameRow.{FrameRow}
use Rattle.esx_types.specs.declared.table.FrameRow.TheVariants as frames
use Rattle.esx_types.specs.declared.table.SlotRow.{SlotRow}
use Rattle.esx_types.specs.declared.table.SlotRow.TheVariants as slots
use Rattle.esx_types.specs.declared.table.Listing.{Listing}
use Rattle.esx_types.specs.declared.table.Listing.TheVariants as listings
use Rattle.esx_types.specs.declared.table.MapRow.{MapRow}
use Rattle.esx_types.specs.declared.table.MapRow.TheVariants as maps
use Rattle.esx_types.specs.declared.vm.VmState.TheVariants.{Running}
use Rattle.esx_types.specs.Frames.{is_free, frame_at}
use Rattle.esx_types.specs.Slots.{slot_at, least_slot as least_empty}
use Rattle.esx_types.specs.Listings.{listing_at}
use Rattle.esx_types.specs.Pages.{page_at}
use Rattle.esx_types.specs.Pages as rows
use Rattle.esx_events.specs.declared.event.Answer.TheVariants as answers
use Rattle.esx_frames.specs.Counts.{counts_of}
use Rattle.esx_model.specs.declared.look.Standing.{Standing}
use Rattle.esx_model.specs.declared.scene.Place.{Place}
use Rattle.esx_model.specs.declared.scene.Place.TheVariants.{Untouched, Here, Out, Lent}
use Rattle.esx_model.specs.declared.scene.Vm.{Vm}
use Rattle.esx_model.specs.declared.scene.Site.{Site}
use Rattle.esx_model.specs.declared.book.VmRow.{VmRow}
use Rattle.esx_model.specs.declared.tables.Tables.{Tables}
use Rattle.esx_model.specs.Places.{is_here, is_lent_in, contents, zeros}
use Rattle.esx_model.specs.Site.{with_vm, place_at, pages_at, least_slot, free_count}
use Rattle.esx_model.specs.Show.{frame_rows, slot_rows, pages_in}
use Rattle.esx_model.specs.Hints.{with_place, with_change, placed}
use Rattle.esx_model.specs.Tables.{raw_place, vm_table, standing_of, tables_of, listing_rows}
use Rattle.esx_model.specs.Moved.{put_vm, less, listing_after, left, joined}
use Rattle.esx_model.specs.Laws.{IsFull}
use Rattle.esx_model.specs.event.Outcome.{standing}
use Rattle.esx_model.specs.event.Balloon.{popped}
use Rattle.esx_model.specs.event.Paging.{victim, is_above_min, replace_gate, freed_slot, trade, trade_for, replace}
use Rattle.esx_model.specs.sound.Machines.{IsPlace}
use Rattle.esx_model.specs.sound.Sound.{IsSound}
use Rattle.esx_model.proofs.Callers.{row_only, vm_there, row_only_shown, popped_becomes, full_site, free_rows, old_place, drawn_is_here, whole_page, slot_taken, slot_unused, Trades, traded_shown, left_put, joined_put, put_twice, pages_at_is, with_change_is, not_not, runs}
use Rattle.esx_tables.specs.declared.change.Change.{Change}
use Rattle.esx_tables.specs.declared.change.Change.TheVariants.{FrameAt, ListingAt, FrameWithSlot, OfVm}
use Rattle.esx_tables.specs.declared.change.VmPart.{VmPart}
use Rattle.esx_tables.specs.Changes.{slots_traded, traded, exchanged}
use Rattle.esx_tables.specs.Machines.{part_traded}
use Rattle.esx_refinement.specs.Refinement.{Refines}
use Rattle.esx_changes.specs.Drawn.{drawn_page}
use Rattle.esx_changes.specs.Spare.{has_spare}
use Rattle.esx_access.specs.Replacing.{slot_for, own_changes, new_changes, replace_parts, replace_changes, trade_with, replace_from, replace_plan}
use Rattle.esx_refinement.proofs.Refining.{row_is, page_row, needs_vm, passes_same, found_same, standing_shown, makes_shown}
use Rattle.esx_refinement.proofs.Made.{exchanged_then, parts_made}
use Rattle.esx_refinement.proofs.Held.{Finds, page_place, private_there, shared_there, held_there, free_slot_there, frame_count, slot_count}
use Rattle.esx_refinement.proofs.Moved.{not_lent}
use Rattle.esx_refinement.proofs.Drawn.{here_shown, drawn_found, slot_found, free_shown, spare_shown, any_same}

-- The machine's row: one page went out, and the other came.

abbrev moved_rows : Vm → ℕ → ℕ → ℕ → ℕ → Bool → VmRow
moved_rows v page q i f due = record (vm_table v) { due = due; pages = set (set (map raw_place v.places) q (maps.Out i)) page (maps.Here f) }

module _ (v : Vm) (page q : ℕ) (bytes new : List ℕ) (f i : ℕ) where
  abbrev after : VmRow
  after = vm_table (with_place page (Here new f false) (with_place q (Out bytes i) (popped page v)))

  moved_shown : (due : Bool) → due ≡ (popped page v).due → moved_rows v page q i f due ≡ after
  moved_shown due same =
      ap (λ (b : Bool). moved_rows v page q i f b) same
      ∙ ap (λ (pages : List MapRow). record (vm_table (popped page v)) { pages = set pages page (maps.Here f) }) (sym (map-set raw_place v.places q (Out bytes i)))
      ∙ ap (λ (pages : List MapRow). record (vm_table (popped page v)) { pages = pages }) (sym (map-set raw_place (set v.places q (Out bytes i)) page (Here new f false)))

  rows_moved : (p : Place) → place_at v page ≡ p → (in_turn part_traded (vm_table v) (replace_parts (vm_table v) page (raw_place p) q i f)).0 ≡ after
  rows_moved Untouched was = moved_shown v.due (not_lent v page Untouched was refl)
  rows_moved (Here old g shared) was = moved_shown v.due (not_lent v page (Here old g shared) was refl)
  rows_moved (Out old k) was = moved_shown v.due (not_lent v page (Out old k) was refl)
  rows_moved (Lent e) was = moved_shown (v.due || (e == v.epoch)) (ap (λ (b : Bool). v.due || b) (sym (ap (is_lent_in v.epoch) was)))

-- The frame and the slot.

-- the frame of the page that goes out, once the page has it for itself
record Owned (t : Tables) (f : ℕ) (bytes : List ℕ) (changes : List Change) : Type 0 where
  rows : List FrameRow
  made : (exchanged t changes).0 ≡ record t { frames = rows }
  there : frame_at rows f ≡ frames.Private bytes
  count : nat_lt f (length rows) ≡ true
  same : (row : FrameRow) → set rows f row ≡ set t.frames f row

module _ (c : Config) (s : Site) (n q : ℕ) (v : Vm) (bytes : List ℕ) (f : ℕ) where
  frame_small : (shared : Bool) → Finds c s n q v (Here bytes f shared) → nat_lt f (length (frame_rows c.frames s)) ≡ true
  frame_small shared h = (let place : IsPlace c v.epoch (Here bytes f shared) = page_place c s n q v (Here bytes f shared) h in frame_count c s f place.0)

  low : (a b : ℕ) → nat_lt a b ≡ true → a < b
  low a b h = grind (arith, nat_tests)

  owned : (shared : Bool) → Finds c s n q v (Here bytes f shared) → Owned (tables_of c s) f bytes (own_changes f (frame_at (frame_rows c.frames s) f))
  unfolding exchanged traded
  owned false h =
      let row = private_there c s n q v bytes f h in
      let t = tables_of c s in
      record { rows = t.frames; made = ap (λ (r : FrameRow). (exchanged t (own_changes f r)).0) row; there = row; count = frame_small false h; same = λ x. refl }
  owned true h =
      let row = shared_there c s n q v bytes f h in
      let t = tables_of c s in
      let k = pages_at f s in
      let below = frame_small true h in
      let mine = frames.Private bytes in
      record {
        rows = set t.frames f mine;
        made = ap (λ (r : FrameRow). (exchanged t (own_changes f r)).0) row ∙ ap (λ (r : FrameRow). record t { frames = set t.frames f (mark_traded r marks.Private).0 }) row;
        there = get_or-set_same t.frames f mine frames.Free (low f (length t.frames) below);
        count = ap (λ (k : ℕ). nat_lt f k) (length-set t.frames f mine) ∙ below;
        same = λ x. set-set t.frames f mine x;
      }

  -- nothing is left in it
  few : (a b : ℕ) → a ≡ b → b ≤ 1 → nat_lt 1 a ≡ false
  few a b e h = grind (arith, nat_tests)

  emptied : (shared : Bool) → Finds c s n q v (Here bytes f shared) → IsFull c s → less (frame_at (frame_rows c.frames s) f) ≡ frames.Free
  emptied false h full = ap less (private_there c s n q v bytes f h)
  emptied true h full =
      let place : IsPlace c v.epoch (Here bytes f true) = page_place c s n q v (Here bytes f true) h in
      ap less (shared_there c s n q v bytes f h)
      ∙ ap (λ (b : Bool). cond b (frames.Shared (pages_at f s - 1) bytes) frames.Free) (few (pages_at f s) (length (pages_in s f)) (pages_at_is f s) (full.single f place.0))

-- the page of a frame goes to a slot, and what was there comes
goes : (rows : List FrameRow) (held : List SlotRow) (f i : ℕ) (bytes : List ℕ) (row : FrameRow) → nat_lt f (length rows) ≡ true → nat_lt i (length held) ≡ true → frame_at rows f ≡ frames.Private bytes
    → slot_traded (frames.Private bytes) (slot_at held i) ≡ (row, slots.Held bytes) → slots_traded f i rows held ≡ (set rows f row, set held i (slots.Held bytes))
unfolding slots_traded
goes rows held f i bytes row low_frame low_slot there is =
    let x : SlotRow = slot_at held i in
    let gone : SlotRow = slots.Held bytes in
    let now : slot_traded_at f rows x ≡ (set rows f row, gone) =
    ap (λ (b : Bool). cond b (set rows f (slot_traded (frame_at rows f) x).0, (slot_traded (frame_at rows f) x).1) (rows, x)) low_frame
    ∙ ap (λ (r : FrameRow). (set rows f (slot_traded r x).0, (slot_traded r x).1)) there
    ∙ ap (λ (r : FrameRow × SlotRow). (set rows f r.0, r.1)) is in
    ap (λ (b : Bool). cond b ((slot_traded_at f rows x).0, set held i (slot_traded_at f rows x).1) (rows, held)) low_slot
    ∙ ap (λ (r : List FrameRow × SlotRow). (r.0, set held i r.1)) now

module _ (c : Config) (s : Site) (n page q : ℕ) (v : Vm) (bytes : List ℕ) (f i : ℕ) where
  -- the tables with the new page in the frame, and the old one in the slot
  abbrev swapped : List ℕ → Tables
  swapped new = record (tables_of c s) { frames = set (frame_rows c.frames s) f (frames.Private new); slots = set (slot_rows c.slots s) i (slots.Held bytes); listings = set (listing_rows c.frames s) f listings.Unlisted }

  -- what the first changes make of the tables once the frame is the page's own
  abbrev HeadMade : Place → Type 0
  HeadMade p = (o : Owned (tables_of c s) f bytes (own_changes f (frame_at (frame_rows c.frames s) f)))
      → (exchanged (record (tables_of c s) { frames = o.rows }) (ListingAt f listings.Unlisted ∷ FrameWithSlot f i ∷ new_changes c f (raw_place p))).0 ≡ swapped (contents c p)

  head_new : nat_lt i (length (slot_rows c.slots s)) ≡ true → slot_at (slot_rows c.slots s) i ≡ slots.Free
      → (o : Owned (tables_of c s) f bytes (own_changes f (frame_at (frame_rows c.frames s) f)))
      → (exchanged (record (tables_of c s) { frames = o.rows }) (ListingAt f listings.Unlisted ∷ FrameWithSlot f i ∷ FrameAt f (frames.Private (zeros c)) ∷ [])).0 ≡ swapped (zeros c)
  unfolding exchanged traded
  head_new low_slot free o =
      let t = tables_of c s in
      let mine = frames.Private (zeros c) in
      ap (λ (r : List FrameRow × List SlotRow). record t { frames = set r.0 f mine; slots = r.1; listings = set t.listings f listings.Unlisted })
      (goes o.rows t.slots f i bytes frames.Free o.count low_slot o.there (ap (slot_traded (frames.Private bytes)) free))
      ∙ ap (λ (xs : List FrameRow). record (swapped (zeros c)) { frames = xs }) (set-set o.rows f frames.Free mine ∙ o.same mine)

  head_back : (old : List ℕ) → nat_lt i (length (slot_rows c.slots s)) ≡ true → slot_at (slot_rows c.slots s) i ≡ slots.Held old
      → (o : Owned (tables_of c s) f bytes (own_changes f (frame_at (frame_rows c.frames s) f)))
      → (exchanged (record (tables_of c s) { frames = o.rows }) (ListingAt f listings.Unlisted ∷ FrameWithSlot f i ∷ [])).0 ≡ swapped old
  unfolding exchanged traded
  head_back old low_slot held o =
      let t = tables_of c s in
      ap (λ (r : List FrameRow × List SlotRow). record t { frames = r.0; slots = r.1; listings = set t.listings f listings.Unlisted })
      (goes o.rows t.slots f i bytes (frames.Private old) o.count low_slot o.there (ap (slot_traded (frames.Private bytes)) held))
      ∙ ap (λ (xs : List FrameRow). record (swapped old) { frames = xs }) (o.same (frames.Private old))

  -- what the site's tables are
  moved_new : (new : List ℕ) (shared : Bool) → less (frame_at (frame_rows c.frames s) f) ≡ frames.Free
      → joined (Here new f false) (joined (Out bytes i) (left (Here bytes f shared) (tables_of c s))) ≡ swapped new
  moved_new new shared empty =
      let t = tables_of c s in
      let held : List SlotRow = set t.slots i (slots.Held bytes) in
      let mine = frames.Private new in
      ap (λ (r : FrameRow). record t { frames = set (set t.frames f r) f mine; slots = held; listings = set (set t.listings f (listing_after r (listing_at t.listings f))) f listings.Unlisted }) empty
      ∙ ap (λ (xs : List FrameRow). record t { frames = xs; slots = held; listings = set (set t.listings f listings.Unlisted) f listings.Unlisted }) (set-set t.frames f frames.Free mine)
      ∙ ap (λ (ls : List Listing). record (swapped new) { listings = ls }) (set-set t.listings f listings.Unlisted listings.Unlisted)

  moved_back : (new old : List ℕ) (shared : Bool) → less (frame_at (frame_rows c.frames s) f) ≡ frames.Free
      → joined (Here new f false) (joined (Out bytes i) (left (Here bytes f shared) (left (Out old i) (tables_of c s)))) ≡ swapped new
  moved_back new old shared empty =
      let t = tables_of c s in
      let held : List SlotRow = set (set t.slots i slots.Free) i (slots.Held bytes) in
      let mine = frames.Private new in
      ap (λ (r : FrameRow). record t { frames = set (set t.frames f r) f mine; slots = held; listings = set (set t.listings f (listing_after r (listing_at t.listings f))) f listings.Unlisted }) empty
      ∙ ap (λ (xs : List FrameRow). record t { frames = xs; slots = held; listings = set (set t.listings f listings.Unlisted) f listings.Unlisted }) (set-set t.frames f frames.Free mine)
      ∙ ap (λ (ls : List Listing). record (swapped new) { slots = held; listings = ls }) (set-set t.listings f listings.Unlisted listings.Unlisted)
      ∙ ap (λ (xs : List SlotRow). record (swapped new) { slots = xs }) (set-set t.slots i slots.Free (slots.Held bytes))

-- The trade.

-- a machine's row that was changed before the pages moved
outside : (h o y p : Place) (b : Tables) (n : ℕ) (w row : Option VmRow) → put_vm (joined h (joined o (left y (left p (put_vm b n w))))) n row ≡ put_vm (joined h (joined o (left y (left p b)))) n row
outside h o y p b n w row =
    ap (λ (t : Tables). put_vm (joined h (joined o (left y t))) n row) (left_put p b n w)
    ∙ ap (λ (t : Tables). put_vm (joined h (joined o t)) n row) (left_put y (left p b) n w)
    ∙ ap (λ (t : Tables). put_vm (joined h t) n row) (joined_put o (left y (left p b)) n w)
    ∙ ap (λ (t : Tables). put_vm t n row) (joined_put h (joined o (left y (left p b))) n w)
    ∙ put_twice (joined h (joined o (left y (left p b)))) n w row

-- What is known where page q of machine n makes room for its page `page`, which is at p.
record Replaces (c : Config) (s : Site) (n page q : ℕ) (v : Vm) (p : Place) (bytes : List ℕ) (f : ℕ) (shared : Bool) : Type 0 where
  wanted : Finds c s n page v p
  other : Finds c s n q v (Here bytes f shared)
  within : q < length v.places
  running : v.state ≡ Running
  away : is_here p ≡ false
  none : free_count c.frames s ≡ 0
  least : list_any is_above_min s.vms ≡ false

module _ (c : Config) (s : Site) (n page q : ℕ) (v : Vm) (p : Place) (bytes : List ℕ) (f : ℕ) (shared : Bool) where
  -- the site once the balloon has popped
  abbrev before : Site
  before = with_vm s n (popped page v)

  before_shown : Replaces c s n page q v p bytes f shared → tables_of c before ≡ put_vm (tables_of c s) n (Some (vm_table (popped page v)))
  before_shown h = row_only_shown c s n v (popped page v) h.wanted.there refl refl

  slot_same : Replaces c s n page q v p bytes f shared → least_slot c.slots before ≡ least_slot c.slots s
  slot_same h = sym (slot_found c before) ∙ ap (λ (t : Tables). tables_least_slot t) (before_shown h) ∙ slot_found c s
    where
      tables_least_slot : Tables → Option ℕ
      tables_least_slot t = least_empty t.slots

  trades : (i : ℕ) → Replaces c s n page q v p bytes f shared → freed_slot c before p ≡ Some i → Trades c before n page q (popped page v) bytes f shared i
  trades i h found =
      let v1 = popped page v in
      let fine = h.wanted.sound.each n v h.wanted.there in
      let low = h.wanted.below in
      let sound1 = row_only c s n v v1 h.wanted.sound h.wanted.there (popped_becomes c v page fine) refl refl in
      let none1 : free_count c.frames before ≡ 0 = sym (free_rows before c.frames) ∙ ap (λ (t : Tables). count_by is_free t.frames) (before_shown h) ∙ free_rows s c.frames ∙ h.none in
      let least1 : list_any is_above_min before.vms ≡ false = any_same is_above_min s.vms n (Some v1) None (sym (ap is_above_min h.wanted.there)) ∙ h.least in
      let away1 : is_here (place_at v page) ≡ false = ap is_here h.wanted.was ∙ h.away in
      let slot = slot_taken c before v.epoch (place_at v page) i (old_place c v page fine (omega (arith, fine.pages, low))) away1 (ap (freed_slot c before) h.wanted.was ∙ found) in
      record {
        sound = sound1;
        there = vm_there s n v v1 h.wanted.there;
        running = h.running;
        below = h.wanted.below;
        away = away1;
        within = h.within;
        was = h.other.was;
        full = full_site c before sound1 none1 least1;
        slot = slot.0;
        clear = slot.1;
      }

  replaced_shown : (i : ℕ) → Replaces c s n page q v p bytes f shared → freed_slot c before p ≡ Some i → joined (Here (contents c p) f false) (joined (Out bytes i) (left (Here bytes f shared) (left p (tables_of c s)))) ≡ swapped c s n page q v bytes f i (contents c p)
      → tables_of c (placed (placed (with_change s n (popped page)) n q (Out bytes i)) n page (Here (contents c p) f false)) ≡ put_vm (swapped c s n page q v bytes f i (contents c p)) n (Some (after v page q bytes (contents c p) f i))
  replaced_shown i h found moved =
      let new = contents c p in
      let o : Place = Out bytes i in
      let y : Place = Here bytes f shared in
      let z : Place = Here new f false in
      let row : Option VmRow = Some (after v page q bytes new f i) in
      ap (λ (t : Site). tables_of c (placed (placed t n q o) n page z)) (with_change_is s n v (popped page) h.wanted.there)
      ∙ traded_shown c before n page q (popped page v) bytes f shared i new (trades i h found) (whole_page c v.epoch p (page_place c s n page v p h.wanted))
      ∙ ap (λ (x : Place). put_vm (joined z (joined o (left y (left x (tables_of c before))))) n row) h.wanted.was
      ∙ ap (λ (t : Tables). put_vm (joined z (joined o (left y (left p t)))) n row) (before_shown h)
      ∙ outside z o y p (tables_of c s) n (Some (vm_table (popped page v))) row
      ∙ ap (λ (t : Tables). put_vm t n row) moved

  replaced : (i : ℕ) → Replaces c s n page q v p bytes f shared → freed_slot c before p ≡ Some i
      → HeadMade c s n page q v bytes f i p → joined (Here (contents c p) f false) (joined (Out bytes i) (left (Here bytes f shared) (left p (tables_of c s)))) ≡ swapped c s n page q v bytes f i (contents c p)
      → Refines c s (trade_with c (tables_of c s) n (vm_table v) page (raw_place p) q (maps.Here f) (Some i)) (trade c s n page p q (Here bytes f shared) (Some i))
  replaced i h found head moved =
      let t = tables_of c s in
      let new = contents c p in
      let was = raw_place p in
      let own : List Change = own_changes f (frame_at t.frames f) in
      let first : List Change = ListingAt f listings.Unlisted ∷ FrameWithSlot f i ∷ new_changes c f was in
      let parts : List VmPart = replace_parts (vm_table v) page was q i f in
      let rest : List Change = map (OfVm n) parts in
      let o = owned c s n q v bytes f shared h.other in
      makes_shown c s (answers.Replaced q i f) (replace_changes c t n (vm_table v) page was q i f) (placed (placed (with_change s n (popped page)) n q (Out bytes i)) n page (Here new f false))
      (put_vm (swapped c s n page q v bytes f i new) n (Some (after v page q bytes new f i)))
      (exchanged_then t (own ++ first) rest
      ∙ ap (λ (x : Tables). (exchanged x rest).0) (exchanged_then t own first ∙ ap (λ (x : Tables). (exchanged x first).0) o.made ∙ head o)
      ∙ parts_made (swapped c s n page q v bytes f i new) n (vm_table v) parts (row_is c s n v h.wanted.there)
      ∙ ap (λ (r : VmRow). put_vm (swapped c s n page q v bytes f i new) n (Some r)) (rows_moved v page q bytes new f i p h.wanted.was))
      (replaced_shown i h found moved)

  full_here : Replaces c s n page q v p bytes f shared → less (frame_at (frame_rows c.frames s) f) ≡ frames.Free
  full_here h = emptied c s n q v bytes f shared h.other (full_site c s h.wanted.sound h.none h.least)

-- by where the wanted page is: the slot that it leaves, or else the least free one
module _ (c : Config) (s : Site) (n page q : ℕ) (v : Vm) (bytes : List ℕ) (f : ℕ) (shared : Bool) where
  to_least : (p : Place) → Replaces c s n page q v p bytes f shared → ((i : ℕ) → least_slot c.slots s ≡ Some i → freed_slot c (before c s n page q v p bytes f shared) p ≡ Some i)
      → ((i : ℕ) → least_slot c.slots s ≡ Some i → HeadMade c s n page q v bytes f i p)
      → ((i : ℕ) → joined (Here (contents c p) f false) (joined (Out bytes i) (left (Here bytes f shared) (left p (tables_of c s)))) ≡ swapped c s n page q v bytes f i (contents c p))
      → Refines c s (trade_with c (tables_of c s) n (vm_table v) page (raw_place p) q (maps.Here f) (least_empty (tables_of c s).slots)) (trade c s n page p q (Here bytes f shared) (least_slot c.slots s))
  to_least p h found head moved =
      found_same c s (least_empty (tables_of c s).slots) (least_slot c.slots s) (trade_with c (tables_of c s) n (vm_table v) page (raw_place p) q (maps.Here f)) (trade c s n page p q (Here bytes f shared)) (slot_found c s) (λ o is. of o is)
    where
      of : (o : Option ℕ) → least_slot c.slots s ≡ o
          → Refines c s (trade_with c (tables_of c s) n (vm_table v) page (raw_place p) q (maps.Here f) o) (trade c s n page p q (Here bytes f shared) o)
      of None is = refl
      of (Some i) is = replaced c s n page q v p bytes f shared i h (found i is) (head i is) (moved i)

  by_place : (p : Place) → Replaces c s n page q v p bytes f shared
      → Refines c s (trade_with c (tables_of c s) n (vm_table v) page (raw_place p) q (maps.Here f) (slot_for (tables_of c s) (raw_place p))) (trade c s n page p q (Here bytes f shared) (freed_slot c s p))
  by_place Untouched h =
      to_least Untouched h (λ i is. slot_same c s n page q v Untouched bytes f shared h ∙ is)
      (λ i is. head_new c s n page q v bytes f i (slot_count c s i (slot_unused c.slots s i is).0) (free_slot_there c s i is))
      (λ i. moved_new c s n page q v bytes f i (zeros c) shared (full_here c s n page q v Untouched bytes f shared h))
  by_place (Lent e) h =
      to_least (Lent e) h (λ i is. slot_same c s n page q v (Lent e) bytes f shared h ∙ is)
      (λ i is. head_new c s n page q v bytes f i (slot_count c s i (slot_unused c.slots s i is).0) (free_slot_there c s i is))
      (λ i. moved_new c s n page q v bytes f i (zeros c) shared (full_here c s n page q v (Lent e) bytes f shared h))
  by_place (Here old g g_shared) h = (let no = h.away in cc)
  by_place (Out old i) h =
      let p : Place = Out old i in
      let place : IsPlace c v.epoch p = page_place c s n page v p h.wanted in
      replaced c s n page q v p bytes f shared i h refl
      (head_back c s n page q v bytes f i old (slot_count c s i place.0) (held_there c s n page v old i h.wanted))
      (moved_back c s n page q v bytes f i old old shared (full_here c s n page q v p bytes f shared h))

-- by where the drawn page is, which is in a frame
by_victim : (c : Config) (s : Site) (n page q : ℕ) (v : Vm) (p y : Place) → Finds c s n page v p → q < v.spec.max → place_at v q ≡ y → is_here y ≡ true → v.state ≡ Running → is_here p ≡ false
    → free_count c.frames s ≡ 0 → list_any is_above_min s.vms ≡ false
    → Refines c s (trade_with c (tables_of c s) n (vm_table v) page (raw_place p) q (raw_place y) (slot_for (tables_of c s) (raw_place p))) (trade c s n page p q y (freed_slot c s p))
by_victim c s n page q v p Untouched wanted low was here running away none least = cc
by_victim c s n page q v p (Out old i) wanted low was here running away none least = cc
by_victim c s n page q v p (Lent e) wanted low was here running away none least = cc
by_victim c s n page q v p (Here bytes f shared) wanted low was here running away none least =
    let fine = wanted.sound.each n v wanted.there in
    by_place c s n page q v bytes f shared p (record {
      wanted = wanted;
      other = record { sound = wanted.sound; there = wanted.there; below = low; was = was };
      within = omega (arith, fine.pages, low);
      running = running;
      away = away;
      none = none;
      least = least;
    })

drawn_made : (c : Config) (s : Site) (n page word : ℕ) (v : Vm) (p : Place) (o : Option ℕ) → Finds c s n page v p → v.state ≡ Running → is_here p ≡ false → free_count c.frames s ≡ 0 → list_any is_above_min s.vms ≡ false → victim v word ≡ o
    → Refines c s (replace_from c (tables_of c s) n (vm_table v) page (raw_place p) o) (trade_for c s n v page o)
drawn_made c s n page word v p None wanted running away none least drawn = refl
drawn_made c s n page word v p (Some q) wanted running away none least drawn =
    let fine = wanted.sound.each n v wanted.there in
    let known = drawn_is_here v word q drawn in
    let t = tables_of c s in
    let P : MapRow → Type 0 = λ row. Refines c s (trade_with c t n (vm_table v) page (raw_place p) q row (slot_for t (raw_place p))) (trade c s n page (place_at v page) q (place_at v q) (freed_slot c s (place_at v page))) in
    let Q : Place → Type 0 = λ x. Refines c s (trade_with c t n (vm_table v) page (raw_place p) q (raw_place (place_at v q)) (slot_for t (raw_place p))) (trade c s n page x q (place_at v q) (freed_slot c s x)) in
    subst P (sym (page_row v q)) (subst Q (sym wanted.was)
    (by_victim c s n page q v p (place_at v q) wanted (let w = known.0 in omega (arith, fine.pages, w)) refl known.1 running away none least))

-- The gate.

either_false : (a b d : Bool) → ((a || b) || d) ≡ false → (a ≡ false) × (b ≡ false) × (d ≡ false)
either_false true b d h = cc
either_false false true d h = cc
either_false false false true h = cc
either_false false false false h = (refl, refl, refl)

none_free : (k : ℕ) → nat_lt 0 k ≡ false → k ≡ 0
none_free k h = grind (arith, nat_tests)

below_max : (max page : ℕ) → nat_le max page ≡ false → page < max
below_max max page h = grind (arith, nat_tests)

same_gate : (c : Config) (s : Site) (page : ℕ) (v : Vm)
    → replace_gate (standing_of (vm_table v)) page (rows.is_here (page_at (vm_table v).pages page)) (counts_of (tables_of c s).frames).free (list_any has_spare (tables_of c s).vms)
    ≡ replace_gate (standing v) page (is_here (place_at v page)) (free_count c.frames s) (list_any is_above_min s.vms)
same_gate c s page v =
    let here : rows.is_here (page_at (vm_table v).pages page) ≡ is_here (place_at v page) = ap rows.is_here (page_row v page) ∙ here_shown (place_at v page) in
    ap (λ (m : Standing). replace_gate m page (rows.is_here (page_at (vm_table v).pages page)) (counts_of (tables_of c s).frames).free (list_any has_spare (tables_of c s).vms)) (standing_shown v)
    ∙ ap (λ (b : Bool). replace_gate (standing v) page b (counts_of (tables_of c s).frames).free (list_any has_spare (tables_of c s).vms)) here
    ∙ ap (λ (k : ℕ). replace_gate (standing v) page (is_here (place_at v page)) k (list_any has_spare (tables_of c s).vms)) (free_shown c s)
    ∙ ap (λ (b : Bool). replace_gate (standing v) page (is_here (place_at v page)) (free_count c.frames s) b) (spare_shown s.vms)

pub replace_refines : (c : Config) (s : Site) (n page word : ℕ) → IsSound c s → Refines c s (replace_plan c (tables_of c s) n page word) (replace c s n page word)
unfolding replace replace_plan
replace_refines c s n page word sound = needs_vm c s n _ _ (λ v there. passes_same c s _ _ _ _ (same_gate c s page v) (λ pass.
    let tests = either_false (is_here (place_at v page)) (nat_lt 0 (free_count c.frames s)) (list_any is_above_min s.vms) pass.1.1.0 in
    let wanted : Finds c s n page v (place_at v page) = record { sound = sound; there = there; below = below_max v.spec.max page pass.1.0; was = refl } in
    let t = tables_of c s in
    let P : MapRow → Type 0 = λ row. Refines c s (replace_from c t n (vm_table v) page row (drawn_page (vm_table v) word)) (trade_for c s n v page (victim v word)) in
    subst P (sym (page_row v page))
    (found_same c s (drawn_page (vm_table v) word) (victim v word) (replace_from c t n (vm_table v) page (raw_place (place_at v page))) (trade_for c s n v page) (drawn_found v word) (λ o drawn.
    drawn_made c s n page word v (place_at v page) o wanted (runs v.state (not_not _ pass.0)) tests.0 (none_free (free_count c.frames s) tests.1) tests.2 drawn))))
