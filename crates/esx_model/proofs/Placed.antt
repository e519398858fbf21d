-- The tables of a site after a page went from where it is to another place, and after it was written where it is.
use Rattle.std.proofs.Common.{◌≡◌, ◌≢◌, ℕ, ◌<◌, ◌≤◌, Bool, true, false, not, List, [], ◌∷◌, ◌++◌, length, set, refl, sym, ap, ◌∙◌, subst, arith, cond, Option, Some, inl, inr, length-append}
use Rattle.std.specs.List.{filter, find, AllByRecursion}
use Rattle.std.proofs.lemmas.List.{get_or-set_same, length-set}
use Rattle.std.proofs.lemmas.Bool.{cases_eq}
use Rattle.esx_types.specs.declared.config.Config.{Config}
use Rattle.esx_types.specs.declared.table.FrameRow.TheVariants as frames
use Rattle.esx_types.specs.declared.vm.VmState.TheVariants.{Starting}
use Rattle.esx_types.specs.declared.table.Hint.{Hint}
use Rattle.esx_model.specs.declared.scene.Place.{Place}
use Rattle.esx_model.specs.declared.scene.Place.TheVariants.{Untouched, Here, Out, Lent}
use Rattle.esx_model.specs.declared.scene.Vm.{Vm}
use Rattle.esx_model.specs.declared.scene.Site.{Site}
use Rattle.esx_model.specs.declared.book.VmRow.{VmRow}
use Rattle.esx_model.specs.declared.tables.Tables.{Tables}
use Rattle.esx_model.specs.Places.{is_here_at, is_private}
use Rattle.esx_model.specs.Site.{vm_at, place_at, place_in, place_of, all_places, all_overhead}
use Rattle.esx_model.specs.Hints.{is_hint_of, without_hint, hints_at, with_place, placed}
use Rattle.esx_model.specs.Show.{pages_in, is_listed, row_of, frame_row, frame_rows, slot_rows}
use Rattle.esx_model.specs.Tables.{vm_table, is_hint_in, hint_listing, listing_by, listing_row, listing_rows, tables_of}
use Rattle.esx_model.specs.Moved.{put_vm, left, joined}
use Rattle.esx_model.specs.sound.Machines.{IsPlace}
use Rattle.esx_model.specs.sound.Frames.{AreFrames}
use Rattle.esx_model.specs.sound.Sound.{IsSound}
use Rattle.esx_model.proofs.Lists.{Changed, rows_same, rows_move, set_again, filter_before, filter_neither, filter_stays, eqb_same}
use Rattle.esx_model.proofs.FramesKept.{untouched_nowhere, FitsIn}
use Rattle.esx_model.proofs.HintsKept.{no_hint, filter_all}
use Rattle.esx_model.proofs.Machines.{not_out, not_lent, old_place}
use Rattle.esx_model.proofs.Kept.{placed_is, placed_at, placed_changed, placed_overhead, placed_sound, vm_placed_there}
use Rattle.esx_model.proofs.Rooms.{Room, room_nowhere, is_in_changed, row_here, private_alone}
use Rattle.esx_model.proofs.Shown.{Moves, leaves, joins, find_same, row_same, row_clear, listing_is, shown_placed, slots_stay, own_hint, old_at, new_at, others_at, placed_hints, other_frame}

passes_one : {X : Type 0} (p : X → Bool) (x : X) (xs : List X) → AllByRecursion (λ x. p x ≡ true) (filter p xs) → (b : Bool) → p x ≡ b → AllByRecursion (λ x. p x ≡ true) (cond b (x ∷ filter p xs) (filter p xs))
passes_one p x xs rest true e = (e, rest)
passes_one p x xs rest false e = rest

passes_all : {X : Type 0} (p : X → Bool) (xs : List X) → AllByRecursion (λ x. p x ≡ true) (filter p xs)
passes_all p [] = tt
passes_all p (x ∷ xs) = passes_one p x xs (passes_all p xs) (p x) refl

-- a page that goes by way of nowhere leaves the same hints
same_hints : (s : Site) (n page : ℕ) (q : Place) (c : Config) → IsSound c s → (is_private q ≡ true → is_private (place_of s n page) ≡ false) → (b : Bool) → is_private q ≡ b
    → hints_at n page q (without_hint n page s.hints) ≡ hints_at n page q s.hints
same_hints s n page q c sound fresh true e = ap (hints_at n page q) (no_hint (place_of s) n page s.hints sound.hints (fresh e))
same_hints s n page q c sound fresh false e =
    let hints = s.hints in
    let test : Hint → Bool = λ h. not (is_hint_of n page h) in
    ap (λ b. cond b (without_hint n page hints) (without_hint n page (without_hint n page hints))) e
    ∙ filter_all test (filter test hints) (passes_all test hints)
    ∙ sym (ap (λ b. cond b hints (without_hint n page hints)) e)

by_nowhere : (c : Config) (s : Site) (n page : ℕ) (v : Vm) (q : Place) → IsSound c s → vm_at s n ≡ Some v → (is_private q ≡ true → is_private (place_of s n page) ≡ false) → placed (placed s n page Untouched) n page q ≡ placed s n page q
by_nowhere c s n page v q sound there fresh =
    ap (λ t. placed t n page q) (placed_is s n page v Untouched there)
    ∙ placed_at s n page v (set v.places page Untouched) (without_hint n page s.hints) q there
    ∙ ap (λ (ps : List Place). record s { vms = set s.vms n (Some (record v { places = ps })); hints = hints_at n page q (without_hint n page s.hints) }) (set_again v.places page Untouched q)
    ∙ ap (λ (hints : List Hint). record s { vms = set s.vms n (Some (with_place page q v)); hints = hints }) (same_hints s n page q c sound fresh (is_private q) refl)
    ∙ sym (placed_is s n page v q there)

joined_row : (q : Place) (b : Tables) (n : ℕ) (o row : Option VmRow) → put_vm (joined q (put_vm b n o)) n row ≡ put_vm (joined q b) n row
joined_row Untouched b n o row = ap (λ (vms : List (Option VmRow)). record b { vms = vms }) (set_again b.vms n o row)
joined_row (Here bytes f shared) b n o row = ap (λ (vms : List (Option VmRow)). record (joined (Here bytes f shared) b) { vms = vms }) (set_again b.vms n o row)
joined_row (Out bytes i) b n o row = ap (λ (vms : List (Option VmRow)). record (joined (Out bytes i) b) { vms = vms }) (set_again b.vms n o row)
joined_row (Lent e) b n o row = ap (λ (vms : List (Option VmRow)). record b { vms = vms }) (set_again b.vms n o row)

-- A page goes from where it is to another place, where there is room for it once it left. (One that stays private in a frame is written there, below.)
pub placed_shown : (c : Config) (s : Site) (n page : ℕ) (v : Vm) (q : Place) → IsSound c s → vm_at s n ≡ Some v → page < v.spec.max → v.state ≢ Starting → IsPlace c v.epoch q
    → Room c s (place_at v page) q → (is_private q ≡ true → is_private (place_at v page) ≡ false)
    → tables_of c (placed s n page q) ≡ put_vm (joined q (left (place_at v page) (tables_of c s))) n (Some (vm_table (with_place page q v)))
placed_shown c s n page v q sound there below past place room fresh =
    let p = place_at v page in
    let fine = sound.each n v there in
    let within : page < length v.places = omega (arith, fine.pages, below) in
    let mid = placed s n page Untouched in
    let w = with_place page Untouched v in
    let mid_sound = placed_sound c s n page v Untouched sound there below past tt (not_out c v page Untouched fine within refl) (not_lent c v page Untouched fine within refl) (room_nowhere c s p) in
    let there_mid = vm_placed_there s n page v Untouched there in
    let ch = placed_changed s n page v Untouched there within in
    let on : Changed p q (all_places s) (ch.front ++ q ∷ ch.back) = record { front = ch.front; back = ch.back; before = ch.before; after = refl } in
    let os = placed_overhead s n page v Untouched there in
    let P : List Place → Type 0 = λ ps. AreFrames c.frames ps (all_overhead s) in
    let Q : List ℕ → Type 0 = AreFrames c.frames (all_places mid) in
    let way = subst P ch.after (subst Q os mid_sound.frames) in
    let R : List Place → Type 0 = λ ps. FitsIn ps (all_overhead s) q in
    let S : List ℕ → Type 0 = λ xs. FitsIn (all_places mid) xs q in
    let fits = subst S (sym os) (subst R (sym ch.after) (room (all_places s) (ch.front ++ q ∷ ch.back) on refl way)) in
    let first = leaves c s n page v p Untouched (record { sound = sound; there = there; within = within; was = refl }) untouched_nowhere in
    let then = joins c mid n page w Untouched q (record {
      sound = mid_sound;
      there = there_mid;
      within = (let len = length-set v.places page Untouched in omega (arith, len, within));
      was = get_or-set_same v.places page Untouched Untouched within;
    }) untouched_nowhere place fits in
    let row : Option VmRow = Some (vm_table (with_place page q w)) in
    let was : is_private q ≡ true → is_private (place_of s n page) ≡ false = λ e. ap (λ o. is_private (place_in o page)) there ∙ fresh e in
    ap (tables_of c) (sym (by_nowhere c s n page v q sound there was))
    ∙ then ∙ ap (λ (b : Tables). put_vm (joined q b) n row) first ∙ joined_row q (left p (tables_of c s)) n (Some (vm_table w)) row
    ∙ ap (λ (ps : List Place). put_vm (joined q (left p (tables_of c s))) n (Some (vm_table (record v { places = ps })))) (set_again v.places page Untouched q)

-- A private page is written in its frame.

alone_is : {X : Type 0} (fs bs : List X) (x : X) → length (fs ++ x ∷ bs) ≤ 1 → fs ++ x ∷ bs ≡ x ∷ []
alone_is [] [] x h = refl
alone_is [] (b ∷ bs) x h = absurd (omega arith)
alone_is (f ∷ fs) bs x h = absurd (let e = length-append fs (x ∷ bs) in omega arith)

same_frame_test : (s : Site) (n page f : ℕ) (v : Vm) (old new : List ℕ) (c : Config) (g : Moves c s n page v (Here old f false)) (k : ℕ) (h : Hint) (b : Bool) → is_hint_of n page h ≡ b
    → is_hint_in (placed s n page (Here new f false)) k h ≡ is_hint_in s k h
same_frame_test s n page f v old new c g k h true e =
    own_hint (placed s n page (Here new f false)) k n page h e ∙ ap (is_here_at k) (new_at c s n page v (Here old f false) (Here new f false) g)
    ∙ sym (own_hint s k n page h e ∙ ap (is_here_at k) (old_at c s n page v (Here old f false) g))
same_frame_test s n page f v old new c g k h false e = ap (is_here_at k) (others_at c s n page v (Here old f false) (Here new f false) g h e)

pub written_shown : (c : Config) (s : Site) (n page : ℕ) (v : Vm) (old : List ℕ) (f : ℕ) (new : List ℕ) → IsSound c s → vm_at s n ≡ Some v → page < v.spec.max → place_at v page ≡ Here old f false
    → tables_of c (placed s n page (Here new f false)) ≡ put_vm (record (tables_of c s) { frames = set (frame_rows c.frames s) f (frames.Private new) }) n (Some (vm_table (with_place page (Here new f false) v)))
written_shown c s n page v old f new sound there low was =
    let p : Place = Here old f false in
    let q : Place = Here new f false in
    let t = placed s n page q in
    let fine = sound.each n v there in
    let within : page < length v.places = omega (arith, fine.pages, low) in
    let g : Moves c s n page v p = record { sound = sound; there = there; within = within; was = was } in
    let P : Place → Type 0 = λ x. Changed x q (all_places s) (all_places t) in
    let ch = subst P was (placed_changed s n page v q there within) in
    let Q : Place → Type 0 = IsPlace c v.epoch in
    let below : f < c.frames = (let place : IsPlace c v.epoch p = subst Q was (old_place c v page fine within) in place.0) in
    let i = is_in_changed p q (all_places s) (all_places t) ch in
    let clear = (row_here c.frames (all_places s) (all_overhead s) old f false sound.frames i).1 in
    let few = private_alone c.frames (all_places s) (all_overhead s) old f sound.frames i in
    let fs = filter (is_here_at f) ch.front in
    let bs = filter (is_here_at f) ch.back in
    let before : pages_in s f ≡ fs ++ p ∷ bs = filter_before (is_here_at f) p q (all_places s) (all_places t) ch ∙ ap (λ b. fs ++ cond b (p ∷ bs) bs) (eqb_same f) in
    let R : List Place → Type 0 = λ xs. length xs ≤ 1 in
    let alone : pages_in s f ≡ p ∷ [] = before ∙ alone_is fs bs p (subst R before few) in
    let after : pages_in t f ≡ q ∷ [] = filter_stays (is_here_at f) p q (all_places s) (all_places t) ch (eqb_same f) (eqb_same f) alone in
    let os = placed_overhead s n page v q there in
    let row : frame_row t f ≡ frames.Private new = row_clear t f (ap (is_listed f) os ∙ clear) ∙ ap row_of after in
    let old_row : frame_row s f ≡ frames.Private old = row_clear s f clear ∙ ap row_of alone in
    let others : (k : ℕ) → k ≢ f → frame_row t k ≡ frame_row s k =
    λ k other. row_same s t k os (filter_neither (is_here_at k) p q (all_places s) (all_places t) ch (other_frame f k other) (other_frame f k other)) in
    let hints : t.hints ≡ s.hints = placed_hints s n page v q there in
    let found : (k : ℕ) → find (is_hint_in t k) t.hints ≡ find (is_hint_in s k) s.hints =
    λ k. ap (find (is_hint_in t k)) hints ∙ find_same (is_hint_in s k) (is_hint_in t k) s.hints (λ h. same_frame_test s n page f v old new c g k h (is_hint_of n page h) refl) in
    let listing : (k : ℕ) → listing_row t k ≡ listing_row s k =
    λ k. elim (cases_eq k f) [
      | inl e ↦ ap (listing_row t) e ∙ listing_is t f ∙ ap (λ r. listing_by r (find (is_hint_in t f) t.hints)) row ∙ ap hint_listing (found f)
          ∙ sym (listing_is s f ∙ ap (λ r. listing_by r (find (is_hint_in s f) s.hints)) old_row) ∙ ap (listing_row s) (sym e)
      | inr other ↦ listing_is t k ∙ ap (λ r. listing_by r (find (is_hint_in t k) t.hints)) (others k other) ∙ ap (listing_by (frame_row s k)) (found k) ∙ sym (listing_is s k)
    ] in
    shown_placed c s n page v q (set (frame_rows c.frames s) f (frames.Private new)) (slot_rows c.slots s) (listing_rows c.frames s) there
    (rows_move (frame_row s) (frame_row t) f c.frames (frames.Private new) frames.Free row others below)
    (slots_stay c s n page v p q g (λ i. refl) (λ i. refl))
    (rows_same (listing_row s) (listing_row t) 0 c.frames listing)
