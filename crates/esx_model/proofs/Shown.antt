-- The tables of a site after a page went to another place, and after a machine changed in its row alone.
use Rattle.std.proofs.Common.{zero, suc, ◌≡◌, ◌≢◌, ℕ, ◌-◌, ◌<◌, Bool, true, false, not, List, [], ◌∷◌, length, get_or, set, map, refl, sym, ap, ◌∙◌, subst, arith, cond, Option, Some, None, ◌==◌, nat_lt}
use Rattle.std.specs.Option.{option_map}
use Rattle.std.specs.List.{filter, find, AllByRecursion}
use Rattle.std.proofs.lemmas.List.{map-set, get_or-set_same, get_or-set_other}
use Rattle.std.proofs.lemmas.Bool.{false≢true}
use Rattle.std.proofs.lemmas.Bool.Decides.{nat_tests}
use Rattle.esx_types.specs.declared.config.Config.{Config}
use Rattle.esx_types.specs.declared.table.FrameRow.{FrameRow}
use Rattle.esx_types.specs.declared.table.FrameRow.TheVariants as frames
use Rattle.esx_types.specs.declared.table.SlotRow.{SlotRow}
use Rattle.esx_types.specs.declared.table.SlotRow.TheVariants as slots
use Rattle.esx_types.specs.Frames.{frame_at}
use Rattle.esx_formulas.specs.Key.{content_key}
use Rattle.esx_types.specs.declared.table.Hint.{Hint}
use Rattle.esx_model.specs.declared.scene.Place.{Place}
use Rattle.esx_model.specs.declared.scene.Place.TheVariants.{Untouched, Here, Out, Lent}
use Rattle.esx_model.specs.declared.scene.Vm.{Vm}
use Rattle.esx_model.specs.declared.scene.Site.{Site}
use Rattle.esx_types.specs.declared.table.Listing.{Listing}
use Rattle.esx_types.specs.declared.table.Listing.TheVariants as listings
use Rattle.esx_model.specs.declared.tables.Tables.{Tables}
use Rattle.esx_model.specs.Places.{is_here_at, is_out_at, is_private}
use Rattle.esx_model.specs.Site.{vm_at, with_vm, place_at, place_in, place_of, all_places, all_overhead}
use Rattle.esx_model.specs.Hints.{is_hint_of, without_hint, hints_at, with_place, placed}
use Rattle.esx_model.specs.Show.{in_frame, in_slot, pages_in, pages_out, is_listed, row_of, slot_of, frame_row, slot_row, frame_rows, slot_rows}
use Rattle.esx_model.specs.Tables.{vm_table, is_hint_in, hint_listing, listing_by, listing_row, listing_rows, tables_of}
use Rattle.esx_types.specs.Listings.{listing_at}
use Rattle.esx_model.specs.Moved.{less, more, FitsRow, listing_after, listing_for, put_vm, left, joined}
use Rattle.esx_model.specs.sound.Machines.{IsPlace}
use Rattle.esx_model.specs.sound.Sound.{IsSound}
use Rattle.esx_model.proofs.Lists.{Changed, rows_same, rows_move, row_in_rows, all_map, filter_neither, not_none}
use Rattle.esx_model.proofs.FramesKept.{IsNowhere, untouched_nowhere, FitsIn, frame_left, slot_left, frame_joined, slot_joined}
use Rattle.esx_model.proofs.HintsKept.{no_hint}
use Rattle.esx_model.proofs.Machines.{old_place}
use Rattle.esx_model.proofs.Kept.{placed_is, placed_changed, placed_overhead, site_with, place_changed, places_same, overhead_same, vm_placed_there, page_is_in}
use Rattle.esx_model.proofs.Rooms.{IsIn, is_in_changed, row_here, frame_with}
use Rattle.esx_model.specs.sound.Frames.{pages_for}

-- Searches.

pub find_same : {X : Type 0} (p q : X → Bool) (xs : List X) → ((x : X) → q x ≡ p x) → find q xs ≡ find p xs
find_same p q [] same = refl
find_same p q (x ∷ xs) same = ap (λ b. cond b (Some x) (find q xs)) (same x) ∙ ap (cond (p x) (Some x)) (find_same p q xs same)

find_kept_one : {X : Type 0} (p q keep : X → Bool) (x : X) (xs : List X) → find q (filter keep xs) ≡ find p xs → (b : Bool) → keep x ≡ b → (keep x ≡ false → p x ≡ false) → (keep x ≡ true → q x ≡ p x)
    → find q (cond b (x ∷ filter keep xs) (filter keep xs)) ≡ cond (p x) (Some x) (find p xs)
find_kept_one p q keep x xs rest true e gone same = ap (λ t. cond t (Some x) (find q (filter keep xs))) (same e) ∙ ap (cond (p x) (Some x)) rest
find_kept_one p q keep x xs rest false e gone same = rest ∙ sym (ap (λ t. cond t (Some x) (find p xs)) (gone e))

pub find_kept : {X : Type 0} (p q keep : X → Bool) (xs : List X) → ((x : X) → keep x ≡ false → p x ≡ false) → ((x : X) → keep x ≡ true → q x ≡ p x) → find q (filter keep xs) ≡ find p xs
find_kept p q keep [] gone same = refl
find_kept p q keep (x ∷ xs) gone same = find_kept_one p q keep x xs (find_kept p q keep xs gone same) (keep x) refl (gone x) (same x)

pub find_nothing : {X : Type 0} (p : X → Bool) (xs : List X) → AllByRecursion (λ x. p x ≡ false) xs → find p xs ≡ None
find_nothing p [] h = refl
find_nothing p (x ∷ xs) h = ap (λ b. cond b (Some x) (find p xs)) h.0 ∙ find_nothing p xs h.1

-- Rows.

pub row_by : (s : Site) (f : ℕ) → frame_row s f ≡ cond (is_listed f (all_overhead s)) frames.Overhead (row_of (pages_in s f))
unfolding frame_row
row_by s f = refl

out_row_by : (s : Site) (i : ℕ) → slot_row s i ≡ slot_of (pages_out s i)
unfolding slot_row
out_row_by s i = refl

pub listing_is : (s : Site) (f : ℕ) → listing_row s f ≡ listing_by (frame_row s f) (find (is_hint_in s f) s.hints)
unfolding listing_row
listing_is s f = refl

pub row_same : (s t : Site) (f : ℕ) → all_overhead t ≡ all_overhead s → pages_in t f ≡ pages_in s f → frame_row t f ≡ frame_row s f
row_same s t f overhead pages =
    row_by t f ∙ ap (λ os. cond (is_listed f os) frames.Overhead (row_of (pages_in t f))) overhead ∙ ap (λ ps. cond (is_listed f (all_overhead s)) frames.Overhead (row_of ps)) pages ∙ sym (row_by s f)

pub row_clear : (s : Site) (f : ℕ) → is_listed f (all_overhead s) ≡ false → frame_row s f ≡ row_of (pages_in s f)
row_clear s f clear = row_by s f ∙ ap (λ b. cond b frames.Overhead (row_of (pages_in s f))) clear

pub out_row_same : (s t : Site) (i : ℕ) → pages_out t i ≡ pages_out s i → slot_row t i ≡ slot_row s i
out_row_same s t i pages = out_row_by t i ∙ ap slot_of pages ∙ sym (out_row_by s i)

pub vm_rows_after : (s : Site) (n : ℕ) (w : Vm) → map (option_map vm_table) (set s.vms n (Some w)) ≡ set (map (option_map vm_table) s.vms) n (Some (vm_table w))
vm_rows_after s n w = map-set (option_map vm_table) s.vms n (Some w)

-- the tables with other rows of frames and slots, other listings, and machine n in another row
abbrev pub tables_with : Config → Site → ℕ → Vm → List FrameRow → List SlotRow → List Listing → Tables
tables_with c s n w fs ss ls = put_vm (record (tables_of c s) { frames = fs; slots = ss; listings = ls }) n (Some (vm_table w))

pub shown_by : (c : Config) (s : Site) (n : ℕ) (w : Vm) (hints : List Hint) (fs : List FrameRow) (ss : List SlotRow) (ls : List Listing)
    → frame_rows c.frames (site_with s n w hints) ≡ fs → slot_rows c.slots (site_with s n w hints) ≡ ss → listing_rows c.frames (site_with s n w hints) ≡ ls
    → tables_of c (site_with s n w hints) ≡ tables_with c s n w fs ss ls
shown_by c s n w hints fs ss ls f i l =
    let t = site_with s n w hints in
    ap (λ xs. record (tables_of c t) { frames = xs }) f
    ∙ ap (λ xs. record (tables_of c t) { frames = fs; slots = xs }) i
    ∙ ap (λ xs. record (tables_of c t) { frames = fs; slots = ss; listings = xs }) l
    ∙ ap (λ xs. record (tables_of c t) { frames = fs; slots = ss; listings = ls; vms = xs }) (vm_rows_after s n w)

-- A machine changes, and none of its pages and overhead frames.
pub row_only_shown : (c : Config) (s : Site) (n : ℕ) (v w : Vm) → vm_at s n ≡ Some v → w.places ≡ v.places → w.overhead ≡ v.overhead → tables_of c (with_vm s n w) ≡ put_vm (tables_of c s) n (Some (vm_table w))
row_only_shown c s n v w there places overhead =
    let t = with_vm s n w in
    let same : all_places t ≡ all_places s = places_same s n v w s.hints there places in
    let os : all_overhead t ≡ all_overhead s = overhead_same s n v w s.hints there overhead in
    let row : (f : ℕ) → frame_row t f ≡ frame_row s f = λ f. row_same s t f os (ap (in_frame f) same) in
    let found : (f : ℕ) → find (is_hint_in t f) s.hints ≡ find (is_hint_in s f) s.hints =
    λ f. find_same (is_hint_in s f) (is_hint_in t f) s.hints (λ h. ap (is_here_at f) (place_changed s n h.vm h.page v w s.hints there (λ e. ap (λ ps. get_or ps h.page Untouched) places))) in
    shown_by c s n w s.hints (frame_rows c.frames s) (slot_rows c.slots s) (listing_rows c.frames s)
    (rows_same (frame_row s) (frame_row t) 0 c.frames row)
    (rows_same (slot_row s) (slot_row t) 0 c.slots (λ i. out_row_same s t i (ap (in_slot i) same)))
    (rows_same (listing_row s) (listing_row t) 0 c.frames (λ f. listing_is t f ∙ ap (λ r. listing_by r (find (is_hint_in t f) s.hints)) (row f) ∙ ap (listing_by (frame_row s f)) (found f) ∙ sym (listing_is s f)))

-- What is known where a page of a machine goes to another place.
pub record Moves (c : Config) (s : Site) (n page : ℕ) (v : Vm) (p : Place) : Type 0 where
  pub sound : IsSound c s
  pub there : vm_at s n ≡ Some v
  pub within : page < length v.places
  pub was : place_at v page ≡ p

same_hint : (n page : ℕ) (h : Hint) → is_hint_of n page h ≡ true → (h.vm ≡ n) × (h.page ≡ page)
same_hint n page h e = (grind (arith, nat_tests), grind (arith, nat_tests))

other_page : (n page m k : ℕ) → is_hint_of n page (record { key = 0; vm = m; page = k }) ≡ false → m ≡ n → k ≢ page
other_page n page m k h e d = grind (arith, nat_tests)

not_it : (b : Bool) → not b ≡ true → b ≡ false
not_it true h = cc
not_it false h = refl

is_it : (b : Bool) → not b ≡ false → b ≡ true
is_it true h = refl
is_it false h = cc

pub old_at : (c : Config) (s : Site) (n page : ℕ) (v : Vm) (p : Place) (g : Moves c s n page v p) → place_of s n page ≡ p
old_at c s n page v p g = ap (λ o. place_in o page) g.there ∙ g.was

pub others_at : (c : Config) (s : Site) (n page : ℕ) (v : Vm) (p q : Place) (g : Moves c s n page v p) (h : Hint) → is_hint_of n page h ≡ false → place_of (placed s n page q) h.vm h.page ≡ place_of s h.vm h.page
others_at c s n page v p q g h other =
    ap (λ t. place_of t h.vm h.page) (placed_is s n page v q g.there)
    ∙ place_changed s n h.vm h.page v (with_place page q v) (hints_at n page q s.hints) g.there (λ d. get_or-set_other v.places page h.page q Untouched (other_page n page h.vm h.page other d))

pub new_at : (c : Config) (s : Site) (n page : ℕ) (v : Vm) (p q : Place) (g : Moves c s n page v p) → place_of (placed s n page q) n page ≡ q
new_at c s n page v p q g = ap (λ o. place_in o page) (vm_placed_there s n page v q g.there) ∙ get_or-set_same v.places page q Untouched g.within

-- the hint of a page that is moved is in a frame where the page is
pub own_hint : (s : Site) (f n page : ℕ) (h : Hint) → is_hint_of n page h ≡ true → is_hint_in s f h ≡ is_here_at f (place_of s n page)
own_hint s f n page h e = (let same = same_hint n page h e in ap (λ m. is_here_at f (place_of s m h.page)) same.0 ∙ ap (λ k. is_here_at f (place_of s n k)) same.1)

-- which hint is in a frame that the page neither leaves nor comes to
found_same : (c : Config) (s : Site) (n page : ℕ) (v : Vm) (p q : Place) (g : Moves c s n page v p) (f : ℕ) → is_here_at f p ≡ false → is_here_at f q ≡ false
    → find (is_hint_in (placed s n page q) f) s.hints ≡ find (is_hint_in s f) s.hints
found_same c s n page v p q g f away come = find_same (is_hint_in s f) (is_hint_in (placed s n page q) f) s.hints (λ h. of h (is_hint_of n page h) refl)
  where
    of : (h : Hint) (b : Bool) → is_hint_of n page h ≡ b → is_hint_in (placed s n page q) f h ≡ is_hint_in s f h
    of h true e = own_hint (placed s n page q) f n page h e ∙ ap (is_here_at f) (new_at c s n page v p q g) ∙ come ∙ sym (own_hint s f n page h e ∙ ap (is_here_at f) (old_at c s n page v p g) ∙ away)
    of h false e = ap (is_here_at f) (others_at c s n page v p q g h e)

-- the same where the page's hint is gone
found_without : (c : Config) (s : Site) (n page : ℕ) (v : Vm) (p q : Place) (g : Moves c s n page v p) (f : ℕ) → is_here_at f p ≡ false
    → find (is_hint_in (placed s n page q) f) (without_hint n page s.hints) ≡ find (is_hint_in s f) s.hints
found_without c s n page v p q g f away =
    find_kept (is_hint_in s f) (is_hint_in (placed s n page q) f) (λ h. not (is_hint_of n page h)) s.hints
    (λ h e. own_hint s f n page h (is_it (is_hint_of n page h) e) ∙ ap (is_here_at f) (old_at c s n page v p g) ∙ away)
    (λ h e. ap (is_here_at f) (others_at c s n page v p q g h (not_it (is_hint_of n page h) e)))

pub placed_hints : (s : Site) (n page : ℕ) (v : Vm) (q : Place) → vm_at s n ≡ Some v → (placed s n page q).hints ≡ hints_at n page q s.hints
placed_hints s n page v q there = ap (λ (t : Site). t.hints) (placed_is s n page v q there)

nowhere_hints : (n page : ℕ) (q : Place) (hints : List Hint) → is_private q ≡ false → hints_at n page q hints ≡ without_hint n page hints
nowhere_hints n page q hints e = ap (λ b. cond b hints (without_hint n page hints)) e

-- the tables of the site, row by row
pub shown_placed : (c : Config) (s : Site) (n page : ℕ) (v : Vm) (q : Place) (fs : List FrameRow) (ss : List SlotRow) (ls : List Listing) → vm_at s n ≡ Some v
    → frame_rows c.frames (placed s n page q) ≡ fs → slot_rows c.slots (placed s n page q) ≡ ss → listing_rows c.frames (placed s n page q) ≡ ls
    → tables_of c (placed s n page q) ≡ tables_with c s n (with_place page q v) fs ss ls
shown_placed c s n page v q fs ss ls there f i l =
    let e = placed_is s n page v q there in
    ap (tables_of c) e ∙ shown_by c s n (with_place page q v) (hints_at n page q s.hints) fs ss ls (ap (frame_rows c.frames) (sym e) ∙ f) (ap (slot_rows c.slots) (sym e) ∙ i) (ap (listing_rows c.frames) (sym e) ∙ l)

-- A page leaves its place.

nowhere_private : (q : Place) → IsNowhere q → is_private q ≡ false
nowhere_private Untouched away = refl
nowhere_private (Here bytes f shared) away = (let no = away.here f in let same : (f == f) ≡ true = grind (arith, nat_tests) in let d = sym no ∙ same in cc)
nowhere_private (Out bytes i) away = refl
nowhere_private (Lent e) away = refl

-- the listing of a frame that the page was not in
listing_stays : (c : Config) (s : Site) (n page : ℕ) (v : Vm) (p q : Place) (g : Moves c s n page v p) → is_private q ≡ false → (f : ℕ) → is_here_at f p ≡ false → frame_row (placed s n page q) f ≡ frame_row s f
    → listing_row (placed s n page q) f ≡ listing_row s f
listing_stays c s n page v p q g away f other row =
    let t = placed s n page q in
    listing_is t f ∙ ap (λ r. listing_by r (find (is_hint_in t f) t.hints)) row
    ∙ ap (λ hints. listing_by (frame_row s f) (find (is_hint_in t f) hints)) (placed_hints s n page v q g.there ∙ nowhere_hints n page q s.hints away)
    ∙ ap (listing_by (frame_row s f)) (found_without c s n page v p q g f other) ∙ sym (listing_is s f)

nothing_moves : (c : Config) (s : Site) (n page : ℕ) (v : Vm) (p q : Place) (g : Moves c s n page v p) → IsNowhere p → IsNowhere q → (ss : List SlotRow) → slot_rows c.slots (placed s n page q) ≡ ss
    → tables_of c (placed s n page q) ≡ tables_with c s n (with_place page q v) (frame_rows c.frames s) ss (listing_rows c.frames s)
nothing_moves c s n page v p q g off away ss slot =
    let t = placed s n page q in
    let P : Place → Type 0 = λ x. Changed x q (all_places s) (all_places t) in
    let ch = subst P g.was (placed_changed s n page v q g.there g.within) in
    let row : (f : ℕ) → frame_row t f ≡ frame_row s f = λ f. row_same s t f (placed_overhead s n page v q g.there) (filter_neither (is_here_at f) p q (all_places s) (all_places t) ch (off.here f) (away.here f)) in
    shown_placed c s n page v q (frame_rows c.frames s) ss (listing_rows c.frames s) g.there
    (rows_same (frame_row s) (frame_row t) 0 c.frames row) slot
    (rows_same (listing_row s) (listing_row t) 0 c.frames (λ f. listing_stays c s n page v p q g (nowhere_private q away) f (off.here f) (row f)))

pub slots_stay : (c : Config) (s : Site) (n page : ℕ) (v : Vm) (p q : Place) (g : Moves c s n page v p) → ((i : ℕ) → is_out_at i p ≡ false) → ((i : ℕ) → is_out_at i q ≡ false) → slot_rows c.slots (placed s n page q) ≡ slot_rows c.slots s
slots_stay c s n page v p q g off away =
    let t = placed s n page q in
    let P : Place → Type 0 = λ x. Changed x q (all_places s) (all_places t) in
    let ch = subst P g.was (placed_changed s n page v q g.there g.within) in
    rows_same (slot_row s) (slot_row t) 0 c.slots (λ i. out_row_same s t i (filter_neither (is_out_at i) p q (all_places s) (all_places t) ch (off i) (away i)))

pub other_frame : (f g : ℕ) → g ≢ f → (f == g) ≡ false
other_frame f g h = grind (arith, nat_tests)

after_less : (r : FrameRow) (x y : Option Hint) → listing_by (less r) x ≡ listing_after (less r) (listing_by r y)
after_less frames.Free x y = refl
after_less frames.Overhead x y = refl
after_less (frames.Private bytes) x y = refl
after_less (frames.Shared count bytes) x y = of (nat_lt 1 count)
  where
    of : (b : Bool) → listing_by (cond b (frames.Shared (count - 1) bytes) frames.Free) x ≡ listing_after (cond b (frames.Shared (count - 1) bytes) frames.Free) (listings.Shared (content_key bytes))
    of true = refl
    of false = refl

frame_leaves : (c : Config) (s : Site) (n page : ℕ) (v : Vm) (bytes : List ℕ) (f : ℕ) (shared : Bool) (q : Place) (g : Moves c s n page v (Here bytes f shared)) → IsNowhere q
    → tables_of c (placed s n page q) ≡ put_vm (left (Here bytes f shared) (tables_of c s)) n (Some (vm_table (with_place page q v)))
frame_leaves c s n page v bytes f shared q g away =
    let p : Place = Here bytes f shared in
    let t = placed s n page q in
    let P : Place → Type 0 = λ x. Changed x q (all_places s) (all_places t) in
    let ch = subst P g.was (placed_changed s n page v q g.there g.within) in
    let Q : Place → Type 0 = IsPlace c v.epoch in
    let below : f < c.frames = (let place : IsPlace c v.epoch p = subst Q g.was (old_place c v page (g.sound.each n v g.there) g.within) in place.0) in
    let moves = frame_left c.frames (all_places s) (all_places t) (all_overhead s) bytes f shared q g.sound.frames ch away in
    let clear = (row_here c.frames (all_places s) (all_overhead s) bytes f shared g.sound.frames (is_in_changed p q (all_places s) (all_places t) ch)).1 in
    let os = placed_overhead s n page v q g.there in
    let rows = frame_rows c.frames s in
    let old : frame_at rows f ≡ frame_row s f = row_in_rows (frame_row s) c.frames f frames.Free below in
    let old_list : listing_at (listing_rows c.frames s) f ≡ listing_row s f = row_in_rows (listing_row s) c.frames f listings.Unlisted below in
    let there : frame_row t f ≡ less (frame_at rows f) = row_clear t f (ap (is_listed f) os ∙ clear) ∙ moves.inside.is ∙ ap less (sym (old ∙ row_clear s f clear)) in
    let others : (k : ℕ) → k ≢ f → frame_row t k ≡ frame_row s k = λ k other. row_same s t k os (moves.others k other) in
    let listing : listing_row t f ≡ listing_after (less (frame_at rows f)) (listing_at (listing_rows c.frames s) f) =
    listing_is t f ∙ ap (λ r. listing_by r (find (is_hint_in t f) t.hints)) (there ∙ ap less old)
    ∙ after_less (frame_row s f) (find (is_hint_in t f) t.hints) (find (is_hint_in s f) s.hints)
    ∙ ap (listing_after (less (frame_row s f))) (sym (listing_is s f)) ∙ ap (λ r. listing_after (less r) (listing_row s f)) (sym old) ∙ ap (listing_after (less (frame_at rows f))) (sym old_list) in
    shown_placed c s n page v q (set rows f (less (frame_at rows f))) (slot_rows c.slots s) (set (listing_rows c.frames s) f (listing_after (less (frame_at rows f)) (listing_at (listing_rows c.frames s) f))) g.there
    (rows_move (frame_row s) (frame_row t) f c.frames (less (frame_at rows f)) frames.Free there others below)
    (slots_stay c s n page v p q g (λ i. refl) away.out)
    (rows_move (listing_row s) (listing_row t) f c.frames (listing_after (less (frame_at rows f)) (listing_at (listing_rows c.frames s) f)) listings.Unlisted listing
    (λ k other. listing_stays c s n page v p q g (nowhere_private q away) k (other_frame f k other) (others k other)) below)

slot_leaves : (c : Config) (s : Site) (n page : ℕ) (v : Vm) (bytes : List ℕ) (i : ℕ) (q : Place) (g : Moves c s n page v (Out bytes i)) → IsNowhere q
    → tables_of c (placed s n page q) ≡ put_vm (left (Out bytes i) (tables_of c s)) n (Some (vm_table (with_place page q v)))
slot_leaves c s n page v bytes i q g away =
    let p : Place = Out bytes i in
    let t = placed s n page q in
    let P : Place → Type 0 = λ x. Changed x q (all_places s) (all_places t) in
    let ch = subst P g.was (placed_changed s n page v q g.there g.within) in
    let Q : Place → Type 0 = IsPlace c v.epoch in
    let below : i < c.slots = (let place : IsPlace c v.epoch p = subst Q g.was (old_place c v page (g.sound.each n v g.there) g.within) in place.0) in
    let moves = slot_left c.frames (all_places s) (all_places t) (all_overhead s) bytes i q g.sound.frames ch away in
    let row : (f : ℕ) → frame_row t f ≡ frame_row s f = λ f. row_same s t f (placed_overhead s n page v q g.there) (moves.frames f) in
    shown_placed c s n page v q (frame_rows c.frames s) (set (slot_rows c.slots s) i slots.Free) (listing_rows c.frames s) g.there
    (rows_same (frame_row s) (frame_row t) 0 c.frames row)
    (rows_move (slot_row s) (slot_row t) i c.slots slots.Free slots.Free (out_row_by t i ∙ moves.inside.is) (λ k other. out_row_same s t k (moves.others k other)) below)
    (rows_same (listing_row s) (listing_row t) 0 c.frames (λ f. listing_stays c s n page v p q g (nowhere_private q away) f refl (row f)))

-- a page leaves its place
pub leaves : (c : Config) (s : Site) (n page : ℕ) (v : Vm) (p q : Place) (g : Moves c s n page v p) → IsNowhere q → tables_of c (placed s n page q) ≡ put_vm (left p (tables_of c s)) n (Some (vm_table (with_place page q v)))
leaves c s n page v Untouched q g away = nothing_moves c s n page v Untouched q g untouched_nowhere away (slot_rows c.slots s) (slots_stay c s n page v Untouched q g (λ i. refl) away.out)
leaves c s n page v (Lent e) q g away = nothing_moves c s n page v (Lent e) q g (record { here = λ f. refl; out = λ i. refl }) away (slot_rows c.slots s) (slots_stay c s n page v (Lent e) q g (λ i. refl) away.out)
leaves c s n page v (Here bytes f shared) q g away = frame_leaves c s n page v bytes f shared q g away
leaves c s n page v (Out bytes i) q g away = slot_leaves c s n page v bytes i q g away

-- A page that was nowhere comes to a place.

hints_joined : (c : Config) (s : Site) (n page : ℕ) (v : Vm) (p q : Place) (g : Moves c s n page v p) → IsNowhere p → (b : Bool) → is_private q ≡ b → (placed s n page q).hints ≡ s.hints
hints_joined c s n page v p q g off true e = placed_hints s n page v q g.there ∙ ap (λ b. cond b s.hints (without_hint n page s.hints)) e
hints_joined c s n page v p q g off false e =
    placed_hints s n page v q g.there ∙ ap (λ b. cond b s.hints (without_hint n page s.hints)) e
    ∙ no_hint (place_of s) n page s.hints g.sound.hints (ap is_private (old_at c s n page v p g) ∙ nowhere_private p off)

listing_beside : (c : Config) (s : Site) (n page : ℕ) (v : Vm) (p q : Place) (g : Moves c s n page v p) → IsNowhere p → (f : ℕ) → is_here_at f q ≡ false → frame_row (placed s n page q) f ≡ frame_row s f
    → listing_row (placed s n page q) f ≡ listing_row s f
listing_beside c s n page v p q g off f other row =
    let t = placed s n page q in
    listing_is t f ∙ ap (λ r. listing_by r (find (is_hint_in t f) t.hints)) row
    ∙ ap (λ hints. listing_by (frame_row s f) (find (is_hint_in t f) hints)) (hints_joined c s n page v p q g off (is_private q) refl)
    ∙ ap (listing_by (frame_row s f)) (found_same c s n page v p q g f (off.here f) other) ∙ sym (listing_is s f)

-- no hint is in a frame that no page is in
pub within_places : (ps : List Place) (k : ℕ) (bytes : List ℕ) (g : ℕ) (shared : Bool) → get_or ps k Untouched ≡ Here bytes g shared → k < length ps
within_places [] k bytes g shared h = cc
within_places (p ∷ ps) zero bytes g shared h = omega arith
within_places (p ∷ ps) (suc k) bytes g shared h = (let rest = within_places ps k bytes g shared h in omega (arith, rest))

not_in_frame : (s : Site) (m k f : ℕ) (w : Vm) (p : Place) → vm_at s m ≡ Some w → pages_in s f ≡ [] → place_at w k ≡ p → is_here_at f p ≡ false
not_in_frame s m k f w Untouched there none was = refl
not_in_frame s m k f w (Out bytes i) there none was = refl
not_in_frame s m k f w (Lent e) there none was = refl
not_in_frame s m k f w (Here bytes g shared) there none was = of (g == f) refl
  where
    of : (b : Bool) → (g == f) ≡ b → (g == f) ≡ false
    of false e = e
    of true e =
        let P : Place → Type 0 = IsIn (all_places s) in
        let i : IsIn (all_places s) (Here bytes g shared) = subst P was (page_is_in s m k w there (within_places w.places k bytes g shared was)) in
        let same : g ≡ f = grind (arith, nat_tests) in
        absurd (not_none (filter (is_here_at g) i.front) (filter (is_here_at g) i.back) (Here bytes g shared) (sym (frame_with (all_places s) bytes g shared i) ∙ ap (λ k. in_frame k (all_places s)) same ∙ none))

pub place_in_frame : (s : Site) (m k f : ℕ) (o : Option Vm) → vm_at s m ≡ o → pages_in s f ≡ [] → is_here_at f (place_in o k) ≡ false
place_in_frame s m k f None there none = refl
place_in_frame s m k f (Some w) there none = not_in_frame s m k f w (place_at w k) there none refl

no_hint_in : (c : Config) (s : Site) (n page : ℕ) (v : Vm) (p q : Place) (g : Moves c s n page v p) → IsNowhere p → (f : ℕ) → pages_in s f ≡ [] → find (is_hint_in (placed s n page q) f) s.hints ≡ None
no_hint_in c s n page v p q g off f none =
    let t = placed s n page q in
    find_nothing (is_hint_in t f) s.hints (all_map (λ (h : Hint). is_private (place_of s h.vm h.page) ≡ true) (λ (h : Hint). is_hint_in t f h ≡ false) (λ h private. of h private (is_hint_of n page h) refl) s.hints g.sound.hints.private)
  where
    of : (h : Hint) → is_private (place_of s h.vm h.page) ≡ true → (b : Bool) → is_hint_of n page h ≡ b → is_hint_in (placed s n page q) f h ≡ false
    of h private true e =
        let same = same_hint n page h e in
        let no : is_private (place_of s h.vm h.page) ≡ false = ap (λ m. is_private (place_of s m h.page)) same.0 ∙ ap (λ k. is_private (place_of s n k)) same.1 ∙ ap is_private (old_at c s n page v p g) ∙ nowhere_private p off in
        let d = sym no ∙ private in cc
    of h private false e = ap (is_here_at f) (others_at c s n page v p q g h e) ∙ place_in_frame s h.vm h.page f (vm_at s h.vm) refl none

more_shared : (bytes : List ℕ) (r : FrameRow) (x : Option Hint) → FitsRow bytes true r → listing_by (more bytes true r) x ≡ listings.Shared (content_key bytes)
more_shared bytes frames.Free x fits = refl
more_shared bytes frames.Overhead x fits = refl
more_shared bytes (frames.Private old) x fits = refl
more_shared bytes (frames.Shared count old) x fits = refl

free_for : (bytes : List ℕ) (f : ℕ) (ps : List Place) (r : FrameRow) → FitsRow bytes false r → ps ≡ pages_for f r → ps ≡ []
free_for bytes f ps frames.Free fits h = h
free_for bytes f ps frames.Overhead fits h = absurd fits
free_for bytes f ps (frames.Private old) fits h = absurd fits
free_for bytes f ps (frames.Shared count old) fits h = absurd (false≢true fits.0)

listing_come : (c : Config) (s : Site) (n page : ℕ) (v : Vm) (p : Place) (bytes : List ℕ) (f : ℕ) (shared : Bool) (g : Moves c s n page v p) → IsNowhere p → FitsRow bytes shared (row_of (pages_in s f)) → (r : FrameRow) → r ≡ row_of (pages_in s f)
    → listing_by (more bytes shared r) (find (is_hint_in (placed s n page (Here bytes f shared)) f) (placed s n page (Here bytes f shared)).hints) ≡ listing_for bytes shared
listing_come c s n page v p bytes f true g off fits r is = (let P : FrameRow → Type 0 = FitsRow bytes true in more_shared bytes r (find (is_hint_in (placed s n page (Here bytes f true)) f) (placed s n page (Here bytes f true)).hints) (subst P (sym is) fits))
listing_come c s n page v p bytes f false g off fits r is =
    let q : Place = Here bytes f false in
    ap (λ hints. hint_listing (find (is_hint_in (placed s n page q) f) hints)) (hints_joined c s n page v p q g off true refl)
    ∙ ap hint_listing (no_hint_in c s n page v p q g off f (free_for bytes f (pages_in s f) (row_of (pages_in s f)) fits (g.sound.frames.alike f)))

frame_joins : (c : Config) (s : Site) (n page : ℕ) (v : Vm) (p : Place) (bytes : List ℕ) (f : ℕ) (shared : Bool) (g : Moves c s n page v p) → IsNowhere p → f < c.frames → is_listed f (all_overhead s) ≡ false
    → FitsRow bytes shared (row_of (pages_in s f))
    → tables_of c (placed s n page (Here bytes f shared)) ≡ put_vm (joined (Here bytes f shared) (tables_of c s)) n (Some (vm_table (with_place page (Here bytes f shared) v)))
frame_joins c s n page v p bytes f shared g off below clear fits =
    let q : Place = Here bytes f shared in
    let t = placed s n page q in
    let P : Place → Type 0 = λ x. Changed x q (all_places s) (all_places t) in
    let ch = subst P g.was (placed_changed s n page v q g.there g.within) in
    let moves = frame_joined c.frames (all_places s) (all_places t) (all_overhead s) p bytes f shared g.sound.frames ch off fits in
    let os = placed_overhead s n page v q g.there in
    let rows = frame_rows c.frames s in
    let old : frame_at rows f ≡ frame_row s f = row_in_rows (frame_row s) c.frames f frames.Free below in
    let there : frame_row t f ≡ more bytes shared (frame_at rows f) = row_clear t f (ap (is_listed f) os ∙ clear) ∙ moves.inside.is ∙ ap (more bytes shared) (sym (old ∙ row_clear s f clear)) in
    let others : (k : ℕ) → k ≢ f → frame_row t k ≡ frame_row s k = λ k other. row_same s t k os (moves.others k other) in
    let listing : listing_row t f ≡ listing_for bytes shared =
    listing_is t f ∙ ap (λ r. listing_by r (find (is_hint_in t f) t.hints)) there ∙ listing_come c s n page v p bytes f shared g off fits (frame_at rows f) (old ∙ row_clear s f clear) in
    shown_placed c s n page v q (set rows f (more bytes shared (frame_at rows f))) (slot_rows c.slots s) (set (listing_rows c.frames s) f (listing_for bytes shared)) g.there
    (rows_move (frame_row s) (frame_row t) f c.frames (more bytes shared (frame_at rows f)) frames.Free there others below)
    (slots_stay c s n page v p q g off.out (λ i. refl))
    (rows_move (listing_row s) (listing_row t) f c.frames (listing_for bytes shared) listings.Unlisted listing
    (λ k other. listing_beside c s n page v p q g off k (other_frame f k other) (others k other)) below)

slot_joins : (c : Config) (s : Site) (n page : ℕ) (v : Vm) (p : Place) (bytes : List ℕ) (i : ℕ) (g : Moves c s n page v p) → IsNowhere p → i < c.slots → slot_of (pages_out s i) ≡ slots.Free
    → tables_of c (placed s n page (Out bytes i)) ≡ put_vm (joined (Out bytes i) (tables_of c s)) n (Some (vm_table (with_place page (Out bytes i) v)))
slot_joins c s n page v p bytes i g off below free =
    let q : Place = Out bytes i in
    let t = placed s n page q in
    let P : Place → Type 0 = λ x. Changed x q (all_places s) (all_places t) in
    let ch = subst P g.was (placed_changed s n page v q g.there g.within) in
    let moves = slot_joined c.frames (all_places s) (all_places t) (all_overhead s) p bytes i g.sound.frames ch off free in
    let row : (f : ℕ) → frame_row t f ≡ frame_row s f = λ f. row_same s t f (placed_overhead s n page v q g.there) (moves.frames f) in
    shown_placed c s n page v q (frame_rows c.frames s) (set (slot_rows c.slots s) i (slots.Held bytes)) (listing_rows c.frames s) g.there
    (rows_same (frame_row s) (frame_row t) 0 c.frames row)
    (rows_move (slot_row s) (slot_row t) i c.slots (slots.Held bytes) slots.Free (out_row_by t i ∙ moves.inside.is) (λ k other. out_row_same s t k (moves.others k other)) below)
    (rows_same (listing_row s) (listing_row t) 0 c.frames (λ f. listing_beside c s n page v p q g off f refl (row f)))

pub joins : (c : Config) (s : Site) (n page : ℕ) (v : Vm) (p q : Place) (g : Moves c s n page v p) → IsNowhere p → IsPlace c v.epoch q → FitsIn (all_places s) (all_overhead s) q
    → tables_of c (placed s n page q) ≡ put_vm (joined q (tables_of c s)) n (Some (vm_table (with_place page q v)))
joins c s n page v p Untouched g off place fits = nothing_moves c s n page v p Untouched g off untouched_nowhere (slot_rows c.slots s) (slots_stay c s n page v p Untouched g off.out (λ i. refl))
joins c s n page v p (Lent e) g off place fits = nothing_moves c s n page v p (Lent e) g off (record { here = λ f. refl; out = λ i. refl }) (slot_rows c.slots s) (slots_stay c s n page v p (Lent e) g off.out (λ i. refl))
joins c s n page v p (Here bytes f shared) g off place fits = frame_joins c s n page v p bytes f shared g off place.0 fits.clear fits.row
joins c s n page v p (Out bytes i) g off place fits = slot_joins c s n page v p bytes i g off place.0 fits
