-- The scan.
use Rattle.std.proofs.Common.{◌≡◌, ◌≢◌, ℕ, ◌+◌, ◌<◌, Bool, true, false, List, [], ◌∷◌, length, get_or, set, map, refl, sym, ap, ◌∙◌, subst, arith, cond, Option, Some, None}
use Rattle.std.specs.List.{find, position_from, range_with_len}
use Rattle.std.proofs.lemmas.List.{map-set, set-set, set-get_or, set_comm, get_or-set_same, get_or-set_other, length-set}
use Rattle.std.proofs.lemmas.List.FromFn.{length-map-range_with_len}
use Rattle.std.proofs.lemmas.Bool.{false≢true}
use Rattle.std.proofs.lemmas.Bool.Decides.{nat_tests}
use Rattle.esx_types.specs.declared.config.Config.{Config}
use Rattle.esx_types.specs.declared.table.FrameRow.{FrameRow}
use Rattle.esx_types.specs.declared.table.FrameRow.TheVariants as frames
use Rattle.esx_types.specs.declared.table.Listing.{Listing}
use Rattle.esx_types.specs.declared.table.Listing.TheVariants as listings
use Rattle.esx_types.specs.declared.table.MapRow.{MapRow}
use Rattle.esx_types.specs.declared.table.MapRow.TheVariants as maps
use Rattle.esx_types.specs.declared.vm.VmSpec.{VmSpec}
use Rattle.esx_types.specs.Frames.{frame_at, ref_count}
use Rattle.esx_types.specs.Listings.{listing_at, is_hinted_under}
use Rattle.esx_types.specs.Pages as rows
use Rattle.esx_events.specs.declared.event.Answer.TheVariants as answers
use Rattle.esx_events.specs.declared.event.Scanned.TheVariants as scanned
use Rattle.esx_formulas.specs.Key.{content_key, hint_key}
use Rattle.esx_frames.specs.declared.marks.Mark.TheVariants as marks
use Rattle.esx_frames.specs.Marks.{mark_traded}
use Rattle.esx_model.specs.declared.look.Look.{Look}
use Rattle.esx_model.specs.declared.look.Standing.{Standing}
use Rattle.esx_model.specs.declared.look.Look.TheVariants.{Already, SharedFrame, OtherPage, Changed, OtherBytes, Nothing}
use Rattle.esx_model.specs.declared.scene.Place.{Place}
use Rattle.esx_model.specs.declared.scene.Place.TheVariants.{Untouched, Here, Out, Lent}
use Rattle.esx_model.specs.declared.scene.Vm.{Vm}
use Rattle.esx_model.specs.declared.scene.Site.{Site}
use Rattle.esx_model.specs.declared.book.VmRow.{VmRow}
use Rattle.esx_model.specs.declared.tables.Tables.{Tables}
use Rattle.esx_model.specs.Places.{is_here}
use Rattle.esx_model.specs.Site.{vm_at, place_at, all_places, all_overhead, pages_at}
use Rattle.esx_model.specs.Show.{frame_row}
use Rattle.esx_model.specs.Tables.{raw_place, vm_table, standing_of, is_hint_in, listing_by, listing_row, listing_rows, tables_of}
use Rattle.esx_model.specs.Hints.{with_place, placed}
use Rattle.esx_model.specs.Moved.{less, more, listing_after, listing_without, put_vm, put_frame, left, joined}
use Rattle.esx_model.specs.event.Outcome.{Outcome, standing}
use Rattle.esx_model.specs.event.Sharing as model
use Rattle.esx_model.specs.event.Sharing.{scan_gate}
use Rattle.esx_model.specs.sound.Machines.{IsPlace}
use Rattle.esx_model.specs.sound.Sound.{IsSound}
use Rattle.esx_model.proofs.Callers.{Room, IsIn, Sees, SeesPage, beside, old_place, room_shared, room_to_share, private_alone, row_here, shared_row, apart_frames, page_is_in, vm_placed_there, placed_shown, listing_is, row_in_rows, hinted_shown, count_in_frame, look_sees, not_not, rows_same, rows_move, below_max, frame_below, here_past, place_within, share_marked}
use Rattle.esx_tables.specs.declared.change.Change.TheVariants.{OfVm}
use Rattle.esx_tables.specs.declared.change.VmPart.TheVariants.{PageAt}
use Rattle.esx_tables.specs.Changes.{traded, exchanged}
use Rattle.esx_tables.specs.Readings.{row_at}
use Rattle.esx_refinement.specs.Refinement.{Makes, Refines}
use Rattle.esx_sharing.specs.Sharing.{join_changes, pair_changes, hint_changes, look_changes, look_said, key_in, look_in, looked, scan_row, scan_plan}
use Rattle.esx_refinement.proofs.Refining.{row_is, page_row, needs_vm, passes_same, standing_shown}
use Rattle.esx_refinement.proofs.Made.{parts_made}
use Rattle.esx_refinement.proofs.Drawn.{here_shown}
use Rattle.esx_refinement.proofs.Looks.{look_shown, private_row_at, IsOnly, hint_only, own_page, row_at_frame, frame_shared, frame_private}

-- A machine's row after one of its pages went to another place.

abbrev pub with_page : VmRow → ℕ → MapRow → VmRow
with_page r page row = record r { pages = set r.pages page row }

pub page_put : (v : Vm) (page : ℕ) (q : Place) → vm_table (with_place page q v) ≡ with_page (vm_table v) page (raw_place q)
page_put v page q = ap (λ (ps : List MapRow). record (vm_table v) { pages = ps }) (map-set raw_place v.places page q)

-- A page comes into a frame that is shared with its bytes.

-- the tables after a page went from its frame f to frame g, where so many are then
abbrev pub join_tables : Tables → ℕ → ℕ → ℕ → ℕ → ℕ → List ℕ → VmRow → Tables
join_tables t n page f g count bytes r =
    put_vm (record t { frames = set (set t.frames f frames.Free) g (frames.Shared count bytes); listings = set t.listings f listings.Unlisted }) n (Some (with_page r page (maps.Here g)))

join_made : (t : Tables) (n page f g count : ℕ) (bytes : List ℕ) (r : VmRow) → row_at t n ≡ Some r → (mark_traded (get_or (set t.frames f frames.Free) g frames.Free) (marks.Shared count)).0 ≡ frames.Shared count bytes
    → (exchanged t (join_changes n page f g count)).0 ≡ join_tables t n page f g count bytes r
unfolding exchanged traded
join_made t n page f g count bytes r there row =
    ap (λ x. (exchanged (record t { frames = set (set t.frames f frames.Free) g x; listings = set t.listings f listings.Unlisted }) (OfVm n (PageAt page (maps.Here g)) ∷ [])).0) row
    ∙ parts_made (record t { frames = set (set t.frames f frames.Free) g (frames.Shared count bytes); listings = set t.listings f listings.Unlisted }) n r (PageAt page (maps.Here g) ∷ []) there

-- a page that is private in frame f has the bytes of the pages in frame g
pub record Joins (c : Config) (s : Site) (n page : ℕ) (v : Vm) (bytes : List ℕ) (f g count : ℕ) : Type 0 where
  pub sound : IsSound c s
  pub there : vm_at s n ≡ Some v
  pub below : page < v.spec.max
  pub own : place_at v page ≡ Here bytes f false
  pub inside : IsIn (all_places s) (Here bytes g true)
  pub row : frame_at (tables_of c s).frames g ≡ frames.Shared count bytes

two_frames : (c : Config) (s : Site) (n page : ℕ) (v : Vm) (bytes : List ℕ) (f g count : ℕ) → Joins c s n page v bytes f g count → g ≢ f
two_frames c s n page v bytes f g count j same =
    let test = apart_frames c.frames (all_places s) (all_overhead s) bytes bytes f g j.sound.frames (own_page s n page v bytes f false j.there j.own) j.inside in
    grind (arith, nat_tests)

row_of_joined : (c : Config) (s : Site) (n page : ℕ) (v : Vm) (bytes : List ℕ) (f g count : ℕ) → (j : Joins c s n page v bytes f g count) → get_or (set (tables_of c s).frames f frames.Free) g frames.Free ≡ frames.Shared count bytes
row_of_joined c s n page v bytes f g count j = get_or-set_other (tables_of c s).frames f g frames.Free frames.Free (two_frames c s n page v bytes f g count j) ∙ j.row

key_stays : (c : Config) (s : Site) (n page : ℕ) (v : Vm) (bytes : List ℕ) (f g count : ℕ) → Joins c s n page v bytes f g count
    → set (set (listing_rows c.frames s) f listings.Unlisted) g (listings.Shared (content_key bytes)) ≡ set (listing_rows c.frames s) f listings.Unlisted
key_stays c s n page v bytes f g count j =
    let below = frame_below c s bytes g true j.sound j.inside in
    let rest : List Listing = set (listing_rows c.frames s) f listings.Unlisted in
    let there : get_or rest g listings.Unlisted ≡ listings.Shared (content_key bytes) =
    get_or-set_other (listing_rows c.frames s) f g listings.Unlisted listings.Unlisted (two_frames c s n page v bytes f g count j)
    ∙ row_in_rows (listing_row s) c.frames g listings.Unlisted below ∙ listing_is s g ∙ ap (λ r. listing_by r (find (is_hint_in s g) s.hints)) (sym (row_at_frame c s g below) ∙ j.row) in
    ap (λ (l : Listing). set rest g l) (sym there) ∙ set-get_or rest g listings.Unlisted

joined_shown : (c : Config) (s : Site) (n page : ℕ) (v : Vm) (bytes : List ℕ) (f g count : ℕ) → Joins c s n page v bytes f g count
    → tables_of c (placed s n page (Here bytes g true)) ≡ join_tables (tables_of c s) n page f g (count + 1) bytes (vm_table v)
joined_shown c s n page v bytes f g count j =
    let t : Tables = tables_of c s in
    let q : Place = Here bytes g true in
    let fine = j.sound.each n v j.there in
    let within : page < length v.places = (let below = j.below in omega (arith, fine.pages, below)) in
    let P : Place → Type 0 = IsPlace c v.epoch in
    let place : IsPlace c v.epoch (Here bytes f false) = subst P j.own (old_place c v page fine within) in
    let own = own_page s n page v bytes f false j.there j.own in
    let apart = apart_frames c.frames (all_places s) (all_overhead s) bytes bytes f g j.sound.frames own j.inside in
    let shared = shared_row c.frames (all_places s) (all_overhead s) bytes g j.sound.frames j.inside in
    let clear = (row_here c.frames (all_places s) (all_overhead s) bytes g true j.sound.frames j.inside).1 in
    let R : Place → Type 0 = λ p. Room c s p q in
    let room = subst R (sym j.own) (room_shared c s (Here bytes f false) bytes g shared.0 apart clear shared.1) in
    let row : Option VmRow = Some (vm_table (with_place page q v)) in
    let old : frame_at t.frames f ≡ frames.Private bytes = row_at_frame c s f place.0 ∙ frame_private c s bytes f j.sound own in
    let after : List FrameRow = set (set t.frames f frames.Free) g (frames.Shared (count + 1) bytes) in
    placed_shown c s n page v q j.sound j.there j.below (here_past c v page fine (ap is_here j.own)) (frame_below c s bytes g true j.sound j.inside, place.1) room (λ e. absurd (false≢true e))
    ∙ ap (λ p. put_vm (joined q (left p t)) n row) j.own
    ∙ ap (λ r. put_vm (joined q (put_frame t f (less r) (listing_after (less r) (listing_at t.listings f)))) n row) old
    ∙ ap (λ r. put_vm (put_frame (put_frame t f frames.Free listings.Unlisted) g (more bytes true r) (listings.Shared (content_key bytes))) n row) (row_of_joined c s n page v bytes f g count j)
    ∙ ap (λ (ls : List Listing). put_vm (record t { frames = after; listings = ls }) n row) (key_stays c s n page v bytes f g count j)
    ∙ ap (λ (r : VmRow). put_vm (record t { frames = after; listings = set t.listings f listings.Unlisted }) n (Some r)) (page_put v page q)

joins_make : (c : Config) (s : Site) (n page : ℕ) (v : Vm) (bytes : List ℕ) (f g count : ℕ) → Joins c s n page v bytes f g count → Makes c s (join_changes n page f g (count + 1)) (placed s n page (Here bytes g true))
joins_make c s n page v bytes f g count j =
    join_made (tables_of c s) n page f g (count + 1) bytes (vm_table v) (row_is c s n v j.there) (ap (λ r. (mark_traded r (marks.Shared (count + 1))).0) (row_of_joined c s n page v bytes f g count j))
    ∙ sym (joined_shown c s n page v bytes f g count j)

-- Two private pages come into one frame.

-- the tables after the page at frame g was marked to be shared
abbrev mark_tables : Tables → ℕ → List ℕ → Tables
mark_tables t g bytes = record t { frames = set t.frames g (frames.Shared 1 bytes); listings = set t.listings g (listings.Shared (content_key bytes)) }

pub frame_count : (c : Config) (s : Site) → length (tables_of c s).frames ≡ c.frames
frame_count c s = length-map-range_with_len (frame_row s) 0 c.frames

-- a page that stays in its frame leaves its machine's row as it was
row_stays : (c : Config) (s : Site) (m q : ℕ) (w : Vm) (bytes : List ℕ) (g : ℕ) (shared : Bool) → vm_at s m ≡ Some w → place_at w q ≡ Here bytes g shared
    → set (tables_of c s).vms m (Some (vm_table (with_place q (Here bytes g true) w))) ≡ (tables_of c s).vms
row_stays c s m q w bytes g shared there was =
    let r : VmRow = vm_table w in
    let vms : List (Option VmRow) = (tables_of c s).vms in
    let pages : set r.pages q (maps.Here g) ≡ r.pages = ap (λ (row : MapRow). set r.pages q row) (sym (page_row w q ∙ ap raw_place was)) ∙ set-get_or r.pages q maps.Untouched in
    ap (λ (x : VmRow). set vms m (Some x)) (page_put w q (Here bytes g true) ∙ ap (λ (ps : List MapRow). record r { pages = ps }) pages)
    ∙ ap (λ (o : Option VmRow). set vms m o) (sym (row_is c s m w there)) ∙ set-get_or vms m None

marked_shown : (c : Config) (s : Site) (n page m q : ℕ) (bytes : List ℕ) (g : ℕ) → IsSound c s → SeesPage s n page bytes m q g
    → tables_of c (placed s m q (Here bytes g true)) ≡ mark_tables (tables_of c s) g bytes
marked_shown c s n page m q bytes g sound sees =
    let t : Tables = tables_of c s in
    let p : Place = Here bytes g true in
    let w = sees.vm in
    let fine = sound.each m w sees.there in
    let within = place_within w.places q (ap is_here sees.place) in
    let P : Place → Type 0 = IsPlace c w.epoch in
    let place : IsPlace c w.epoch (Here bytes g false) = subst P sees.place (old_place c w q fine within) in
    let own = own_page s m q w bytes g false sees.there sees.place in
    let R : Place → Type 0 = λ x. Room c s x p in
    let room = room_to_share c s bytes g false bytes (private_alone c.frames (all_places s) (all_overhead s) bytes g sound.frames own) (row_here c.frames (all_places s) (all_overhead s) bytes g false sound.frames own).1 sees.fresh in
    let row : Option VmRow = Some (vm_table (with_place q p w)) in
    let old : frame_at t.frames g ≡ frames.Private bytes = row_at_frame c s g place.0 ∙ frame_private c s bytes g sound own in
    let key : Listing = listings.Shared (content_key bytes) in
    let inside : g < length t.frames = (let count = frame_count c s in let below = place.0 in omega (arith, count, below)) in
    placed_shown c s m q w p sound sees.there (omega (arith, fine.pages, within)) (here_past c w q fine (ap is_here sees.place)) place (subst R (sym sees.place) room) (λ e. absurd (false≢true e))
    ∙ ap (λ x. put_vm (joined p (left x t)) m row) sees.place
    ∙ ap (λ r. put_vm (joined p (put_frame t g (less r) (listing_after (less r) (listing_at t.listings g)))) m row) old
    ∙ ap (λ r. put_vm (put_frame (put_frame t g frames.Free listings.Unlisted) g (more bytes true r) key) m row) (get_or-set_same t.frames g frames.Free frames.Free inside)
    ∙ ap (λ (fs : List FrameRow). put_vm (record t { frames = fs; listings = set (set t.listings g listings.Unlisted) g key }) m row) (set-set t.frames g frames.Free (frames.Shared 1 bytes))
    ∙ ap (λ (ls : List Listing). put_vm (record t { frames = set t.frames g (frames.Shared 1 bytes); listings = ls }) m row) (set-set t.listings g listings.Unlisted key)
    ∙ ap (λ (vms : List (Option VmRow)). record (mark_tables t g bytes) { vms = vms }) (row_stays c s m q w bytes g false sees.there sees.place)

-- the page joins the one that was marked
marked_joins : (c : Config) (s : Site) (n page : ℕ) (v : Vm) (bytes : List ℕ) (f m q g : ℕ) → IsSound c s → vm_at s n ≡ Some v → page < v.spec.max → place_at v page ≡ Here bytes f false → (sees : SeesPage s n page bytes m q g)
    → (u : Vm) × (vm_at (placed s m q (Here bytes g true)) n ≡ Some u) × Joins c (placed s m q (Here bytes g true)) n page u bytes f g 1
marked_joins c s n page v bytes f m q g sound there below was sees =
    let p : Place = Here bytes g true in
    let t = placed s m q p in
    let w = sees.vm in
    let sound1 = share_marked c s m q w bytes g sound sees.there sees.place sees.fresh in
    let own = beside s m q w p n page v sees.there there sees.other in
    let there1 = vm_placed_there s m q w p sees.there in
    let within = place_within w.places q (ap is_here sees.place) in
    let Q : Place → Type 0 = IsIn (all_places t) in
    let i : IsIn (all_places t) p = subst Q (get_or-set_same w.places q p Untouched within) (page_is_in t m q (with_place q p w) there1 (let len = length-set w.places q p in omega (arith, len, within))) in
    let g_below = frame_below c s bytes g false sound (own_page s m q w bytes g false sees.there sees.place) in
    let inside : g < length (tables_of c s).frames = (let count = frame_count c s in omega (arith, count, g_below)) in (
      own.vm,
      own.there,
      record {
        sound = sound1;
        there = own.there;
        below = (let same = ap (λ (x : VmSpec). x.max) own.spec in omega (arith, same, below));
        own = own.place ∙ was;
        inside = i;
        row = ap (λ (x : Tables). frame_at x.frames g) (marked_shown c s n page m q bytes g sound sees) ∙ get_or-set_same (tables_of c s).frames g (frames.Shared 1 bytes) frames.Free inside;
      },
    )

same_some : (r x : VmRow) → Some r ≡ Some x → r ≡ x
same_some r x h = cc

pair_shown : (c : Config) (s : Site) (n page : ℕ) (v : Vm) (bytes : List ℕ) (f m q g : ℕ) → IsSound c s → vm_at s n ≡ Some v → page < v.spec.max → place_at v page ≡ Here bytes f false → SeesPage s n page bytes m q g → g ≢ f
    → tables_of c (placed (placed s m q (Here bytes g true)) n page (Here bytes g true))
    ≡ join_tables (record (tables_of c s) { listings = set (tables_of c s).listings g (listings.Shared (content_key bytes)) }) n page f g 2 bytes (vm_table v)
pair_shown c s n page v bytes f m q g sound there below was sees apart =
    let t : Tables = tables_of c s in
    let mid = placed s m q (Here bytes g true) in
    let joins = marked_joins c s n page v bytes f m q g sound there below was sees in
    let u = joins.0 in
    let marked = marked_shown c s n page m q bytes g sound sees in
    let same : vm_table u ≡ vm_table v =
    same_some (vm_table u) (vm_table v) (sym (row_is c mid n u joins.1) ∙ ap (λ (x : Tables). row_at x n) marked ∙ row_is c s n v there) in
    let twice : set (set (set t.frames g (frames.Shared 1 bytes)) f frames.Free) g (frames.Shared 2 bytes) ≡ set (set t.frames f frames.Free) g (frames.Shared 2 bytes) =
    ap (λ (fs : List FrameRow). set fs g (frames.Shared 2 bytes)) (set_comm t.frames g f (frames.Shared 1 bytes) frames.Free apart)
    ∙ set-set (set t.frames f frames.Free) g (frames.Shared 1 bytes) (frames.Shared 2 bytes) in
    joined_shown c mid n page u bytes f g 1 joins.2
    ∙ ap (λ (x : Tables). join_tables x n page f g 2 bytes (vm_table u)) marked
    ∙ ap (λ (fs : List FrameRow). put_vm (record (mark_tables t g bytes) { frames = fs; listings = set (set t.listings g (listings.Shared (content_key bytes))) f listings.Unlisted }) n (Some (with_page (vm_table u) page (maps.Here g)))) twice
    ∙ ap (λ (r : VmRow). join_tables (record t { listings = set t.listings g (listings.Shared (content_key bytes)) }) n page f g 2 bytes r) same

pairs_make : (c : Config) (s : Site) (n page : ℕ) (v : Vm) (bytes : List ℕ) (f m q g : ℕ) → IsSound c s → vm_at s n ≡ Some v → page < v.spec.max → place_at v page ≡ Here bytes f false → SeesPage s n page bytes m q g
    → Makes c s (pair_changes n page f g (content_key bytes)) (placed (placed s m q (Here bytes g true)) n page (Here bytes g true))
unfolding exchanged traded
pairs_make c s n page v bytes f m q g sound there below was sees =
    let t : Tables = record (tables_of c s) { listings = set (tables_of c s).listings g (listings.Shared (content_key bytes)) } in
    let joins = marked_joins c s n page v bytes f m q g sound there below was sees in
    let apart : g ≢ f = two_frames c (placed s m q (Here bytes g true)) n page joins.0 bytes f g 1 joins.2 in
    let other = own_page s m q sees.vm bytes g false sees.there sees.place in
    let row : get_or (set t.frames f frames.Free) g frames.Free ≡ frames.Private bytes =
    get_or-set_other t.frames f g frames.Free frames.Free apart ∙ row_at_frame c s g (frame_below c s bytes g false sound other) ∙ frame_private c s bytes g sound other in
    join_made t n page f g 2 bytes (vm_table v) (row_is c s n v there) (ap (λ r. (mark_traded r (marks.Shared 2)).0) row)
    ∙ sym (pair_shown c s n page v bytes f m q g sound there below was sees apart)

-- A page becomes the hint under the upper bits of its key.

no_twice : {X Y Z : Type 0} (f : X → Y) (g : Y → Z) (xs : List X) → map (λ x. g (f x)) xs ≡ map g (map f xs)
no_twice f g [] = refl
no_twice {Z = Z} f g (x ∷ xs) = ap (λ (zs : List Z). g (f x) ∷ zs) (no_twice f g xs)

unhinted : (key : ℕ) (l : Listing) → is_hinted_under key l ≡ false → listing_without key l ≡ l
unhinted key listings.Unlisted h = refl
unhinted key (listings.Shared k) h = refl
unhinted key (listings.Hinted m q k) h = ap (λ b. cond b listings.Unlisted (listings.Hinted m q k)) h

hint_goes : (key : ℕ) (l : Listing) → is_hinted_under key l ≡ true → listing_without key l ≡ listings.Unlisted
hint_goes key listings.Unlisted h = refl
hint_goes key (listings.Shared k) h = cc
hint_goes key (listings.Hinted m q k) h = ap (λ b. cond b listings.Unlisted (listings.Hinted m q k)) h

-- listings without the one hint under a key
abbrev pub unlisted : Option ℕ → List Listing → List Listing
unlisted None ls = ls
unlisted (Some g) ls = set ls g listings.Unlisted

one_goes : (c : Config) (s : Site) (key : ℕ) (o : Option ℕ) → IsOnly (is_hinted_under key) (listing_row s) c.frames o → map (listing_without key) (listing_rows c.frames s) ≡ unlisted o (listing_rows c.frames s)
one_goes c s key None only =
    sym (no_twice (listing_row s) (listing_without key) (range_with_len 0 c.frames))
    ∙ rows_same (listing_row s) (λ f. listing_without key (listing_row s f)) 0 c.frames (λ f. unhinted key (listing_row s f) (only f))
one_goes c s key (Some g) only =
    sym (no_twice (listing_row s) (listing_without key) (range_with_len 0 c.frames))
    ∙ rows_move (listing_row s) (λ f. listing_without key (listing_row s f)) g c.frames listings.Unlisted listings.Unlisted (hint_goes key (listing_row s g) only.1)
    (λ f other. unhinted key (listing_row s f) (of f other (is_hinted_under key (listing_row s f)) refl)) only.0
  where
    of : (f : ℕ) → f ≢ g → (b : Bool) → is_hinted_under key (listing_row s f) ≡ b → b ≡ false
    of f other false e = refl
    of f other true e = absurd (other (only.2 f e))

hint_made : (t : Tables) (n page f key : ℕ) (o : Option ℕ) → (exchanged t (hint_changes n page f key o)).0 ≡ record t { listings = set (unlisted o t.listings) f (listings.Hinted n page key) }
unfolding exchanged traded
hint_made t n page f key None = refl
hint_made t n page f key (Some g) = refl

hints_make : (c : Config) (s : Site) (n page : ℕ) (v : Vm) (bytes : List ℕ) (f : ℕ) → IsSound c s → vm_at s n ≡ Some v → page < v.spec.max → place_at v page ≡ Here bytes f false
    → Makes c s (hint_changes n page f (hint_key bytes) (position_from (is_hinted_under (hint_key bytes)) 0 (tables_of c s).listings)) (model.hinted s n page bytes)
hints_make c s n page v bytes f sound there below was =
    let t : Tables = tables_of c s in
    let key = hint_key bytes in
    let o : Option ℕ = position_from (is_hinted_under key) 0 t.listings in
    let fine = sound.each n v there in
    hint_made t n page f key o
    ∙ ap (λ (ls : List Listing). record t { listings = set ls f (listings.Hinted n page key) }) (sym (one_goes c s key o (hint_only c s key sound)))
    ∙ sym (hinted_shown c s n page v bytes bytes f sound there (omega (arith, fine.pages, below)) was)

-- What a look changes, and what is said of it.

page_joins : (c : Config) (s : Site) (n page : ℕ) (v : Vm) (bytes : List ℕ) (f g : ℕ) → IsSound c s → vm_at s n ≡ Some v → page < v.spec.max → place_at v page ≡ Here bytes f false → IsIn (all_places s) (Here bytes g true)
    → (count : ℕ) × Joins c s n page v bytes f g count
page_joins c s n page v bytes f g sound there below was inside =
    let row = frame_shared c s bytes g sound inside in
    (row.0, record { sound = sound; there = there; below = below; own = was; inside = inside; row = row_at_frame c s g (frame_below c s bytes g true sound inside) ∙ row.1 })

pub look_makes : (c : Config) (s : Site) (n page : ℕ) (v : Vm) (bytes : List ℕ) (f : ℕ) (l : Look) → IsSound c s → vm_at s n ≡ Some v → page < v.spec.max → place_at v page ≡ Here bytes f false → Sees s n page bytes l
    → Makes c s (look_changes (tables_of c s) n page f (content_key bytes) l) (model.after_look s n page bytes l)
unfolding exchanged
look_makes c s n page v bytes f Already sound there below was sees = refl
look_makes c s n page v bytes f OtherBytes sound there below was sees = refl
look_makes c s n page v bytes f Changed sound there below was sees = hints_make c s n page v bytes f sound there below was
look_makes c s n page v bytes f Nothing sound there below was sees = hints_make c s n page v bytes f sound there below was
look_makes c s n page v bytes f (OtherPage m q g) sound there below was sees = pairs_make c s n page v bytes f m q g sound there below was sees
look_makes c s n page v bytes f (SharedFrame g) sound there below was sees =
    let j = page_joins c s n page v bytes f g sound there below was sees in
    ap (λ r. (exchanged (tables_of c s) (join_changes n page f g (ref_count r + 1))).0) j.1.row ∙ joins_make c s n page v bytes f g j.0 j.1

-- as many pages are in frame g after a page joined it as its row tells
joined_count : (c : Config) (s : Site) (n page : ℕ) (v : Vm) (bytes : List ℕ) (f g count : ℕ) → Joins c s n page v bytes f g count → count + 1 ≡ pages_at g (placed s n page (Here bytes g true))
joined_count c s n page v bytes f g count j =
    let t : Tables = tables_of c s in
    let after = placed s n page (Here bytes g true) in
    let below = frame_below c s bytes g true j.sound j.inside in
    let rest : List FrameRow = set t.frames f frames.Free in
    let inside : g < length rest = (let len = length-set t.frames f frames.Free in let all = frame_count c s in omega (arith, len, all, below)) in
    count_in_frame after g (count + 1) bytes (
    sym (row_at_frame c after g below) ∙ ap (λ (x : Tables). frame_at x.frames g) (joined_shown c s n page v bytes f g count j)
    ∙ get_or-set_same rest g (frames.Shared (count + 1) bytes) frames.Free inside)

look_tells : (c : Config) (s : Site) (n page : ℕ) (v : Vm) (bytes : List ℕ) (f : ℕ) (l : Look) → IsSound c s → vm_at s n ≡ Some v → page < v.spec.max → place_at v page ≡ Here bytes f false → Sees s n page bytes l
    → look_said (tables_of c s) l ≡ model.said_of (model.after_look s n page bytes l) l
look_tells c s n page v bytes f Already sound there below was sees = refl
look_tells c s n page v bytes f OtherBytes sound there below was sees = refl
look_tells c s n page v bytes f Changed sound there below was sees = refl
look_tells c s n page v bytes f Nothing sound there below was sees = refl
look_tells c s n page v bytes f (OtherPage m q g) sound there below was sees =
    let joins = marked_joins c s n page v bytes f m q g sound there below was sees in
    ap (scanned.Shared g) (joined_count c (placed s m q (Here bytes g true)) n page joins.0 bytes f g 1 joins.2)
look_tells c s n page v bytes f (SharedFrame g) sound there below was sees =
    let j = page_joins c s n page v bytes f g sound there below was sees in
    ap (λ r. scanned.Shared g (ref_count r + 1)) j.1.row ∙ ap (scanned.Shared g) (joined_count c s n page v bytes f g j.0 j.1)

-- The scan.

pub looked_makes : (c : Config) (s : Site) (n page : ℕ) (v : Vm) (bytes : List ℕ) (f : ℕ) (l : Look) → IsSound c s → vm_at s n ≡ Some v → page < v.spec.max → place_at v page ≡ Here bytes f false → Sees s n page bytes l
    → Refines c s (looked (tables_of c s) n page f (content_key bytes) l) (model.looked l (model.after_look s n page bytes l))
looked_makes c s n page v bytes f l sound there below was sees =
    (ap answers.Looked (look_tells c s n page v bytes f l sound there below was sees), look_makes c s n page v bytes f l sound there below was sees)

scan_here : (c : Config) (s : Site) (n page : ℕ) (v : Vm) (p : Place) → IsSound c s → vm_at s n ≡ Some v → page < v.spec.max → place_at v page ≡ p → is_here p ≡ true
    → Refines c s (scan_row (tables_of c s) n page (raw_place p)) (model.scan_place c s n page p)
unfolding exchanged model.look
scan_here c s n page v Untouched sound there below was here = cc
scan_here c s n page v (Out bytes i) sound there below was here = cc
scan_here c s n page v (Lent e) sound there below was here = cc
scan_here c s n page v (Here bytes f true) sound there below was here =
    let t : Tables = tables_of c s in
    let i = own_page s n page v bytes f true there was in
    let key = ap key_in (row_at_frame c s f (frame_below c s bytes f true sound i) ∙ (frame_shared c s bytes f sound i).1) in
    let o : Outcome = model.scan_place c s n page (Here bytes f true) in
    let P : ℕ → Type 0 = λ k. Refines c s (looked t n page f k (look_in t n page (frame_at t.frames f))) o in
    let Q : Look → Type 0 = λ l. Refines c s (looked t n page f 0 l) o in
    subst P (sym key) (subst Q (sym (look_shown c s n page v bytes f true sound there was)) (refl, refl))
scan_here c s n page v (Here bytes f false) sound there below was here =
    let t : Tables = tables_of c s in
    let key = ap key_in (private_row_at c s n page v bytes f sound there was) in
    let l = model.look s n page (Here bytes f false) in
    let o : Outcome = model.scan_place c s n page (Here bytes f false) in
    let P : ℕ → Type 0 = λ k. Refines c s (looked t n page f k (look_in t n page (frame_at t.frames f))) o in
    let Q : Look → Type 0 = λ x. Refines c s (looked t n page f (content_key bytes) x) o in
    subst P (sym key) (subst Q (sym (look_shown c s n page v bytes f false sound there was))
    (looked_makes c s n page v bytes f l sound there below was (look_sees c s n page (Here bytes f false) sound)))

gate_shown : (v : Vm) (page : ℕ) → scan_gate (standing_of (vm_table v)) page (rows.is_here (rows.page_at (vm_table v).pages page)) ≡ scan_gate (standing v) page (is_here (place_at v page))
gate_shown v page =
    ap (λ (m : Standing). scan_gate m page (rows.is_here (rows.page_at (vm_table v).pages page))) (standing_shown v)
    ∙ ap (scan_gate (standing v) page) (ap rows.is_here (page_row v page) ∙ here_shown (place_at v page))

pub scan_refines : (c : Config) (s : Site) (n page : ℕ) → IsSound c s → Refines c s (scan_plan (tables_of c s) n page) (model.scan c s n page)
unfolding model.scan scan_plan
scan_refines c s n page sound = needs_vm c s n _ _ (λ v there. passes_same c s _ _ _ _ (gate_shown v page) (λ pass.
    let P : MapRow → Type 0 = λ row. Refines c s (scan_row (tables_of c s) n page row) (model.scan_place c s n page (place_at v page)) in
    subst P (sym (page_row v page)) (scan_here c s n page v (place_at v page) sound there (below_max v.spec.max page pass.1.0) refl (not_not _ pass.1.1.0))))
