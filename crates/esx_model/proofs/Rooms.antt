-- Where a page may go: free frames and slots, its own frame, and frames that are shared with its bytes.
use Rattle.std.proofs.Common.{zero, suc, ◌≡◌, ◌≢◌, ℕ, ◌≤◌, ◌<◌, Bool, true, false, ◌||◌, not, List, [], ◌∷◌, ◌++◌, length, replicate, refl, sym, ap, ◌∙◌, subst, arith, cond, Option, Some, None, ◌==◌, sum_by, ◌-◌, length-append, nat_lt}
use Rattle.std.specs.List.{flat_map, filter, list_any, range_with_len}
use Rattle.std.proofs.lemmas.List.Folds.{list_any-append}
use Rattle.std.proofs.lemmas.List.Elements.{filter-append}
use Rattle.std.proofs.lemmas.Bool.Decides.{nat_tests}
use Rattle.std.proofs.lemmas.Bool.{false≢true}
use Rattle.std.proofs.lemmas.List.Sums.{length-filter, sum_by-cons}
use Rattle.esx_types.specs.declared.config.Config.{Config}
use Rattle.esx_types.specs.declared.table.FrameRow.{FrameRow}
use Rattle.esx_types.specs.declared.table.FrameRow.TheVariants as frames
use Rattle.esx_formulas.specs.Key.{content_key}
use Rattle.esx_model.specs.declared.scene.Place.{Place}
use Rattle.esx_model.specs.declared.scene.Place.TheVariants.{Untouched, Here, Out, Lent}
use Rattle.esx_model.specs.declared.scene.Vm.{Vm}
use Rattle.esx_model.specs.declared.scene.Site.{Site}
use Rattle.esx_model.specs.Places.{is_here_at, is_out_at}
use Rattle.esx_model.specs.Site.{vm_names, is_named, vm_holds, is_held, vm_places, vm_overhead, least_free, least_slot, all_places, all_overhead, pages_of, pages_at}
use Rattle.esx_model.specs.Show.{in_frame, in_slot, pages_in, pages_out, is_listed, row_of, slot_of}
use Rattle.esx_model.specs.sound.Frames.{AreFrames, pages_for, key_of_row}
use Rattle.esx_model.proofs.Lists.{Changed, or_false, not_true, find_passes, find_in_range, any_none, not_none, eqb_same}
use Rattle.esx_model.proofs.FramesKept.{FitsIn, between, clear_where, none_on_the_way, no_slot_on_the_way, alone_on_the_way, others_on_the_way, fits_free, fits_new_share, fits_share, frame_left, goes_off, untouched_nowhere}
use Rattle.esx_model.specs.Moved.{FitsRow, less}

-- a page at p of the site has room at q, once it left
abbrev pub Room : Config → Site → Place → Place → Type 0
Room c s p q = (ps qs : List Place) (ch : Changed p q ps qs) → ps ≡ all_places s → AreFrames c.frames (between p q ps qs ch) (all_overhead s) → FitsIn (between p q ps qs ch) (all_overhead s) q

pub room_same : (c : Config) (s t : Site) (p q : Place) → all_places t ≡ all_places s → all_overhead t ≡ all_overhead s → Room c s p q → Room c t p q
room_same c s t p q places overhead room ps qs ch is fine =
    let P : List ℕ → Type 0 = λ os. FitsIn (between p q ps qs ch) os q in
    let Q : List ℕ → Type 0 = AreFrames c.frames (between p q ps qs ch) in
    subst P (sym overhead) (room ps qs ch (is ∙ places) (subst Q overhead fine))

-- A frame that nobody has taken.
pub record IsUnused (count : ℕ) (s : Site) (f : ℕ) : Type 0 where
  pub below : f < count
  pub pages : pages_in s f ≡ []
  pub clear : is_listed f (all_overhead s) ≡ false

vm_unnamed : (f : ℕ) (o : Option Vm) → vm_names f o ≡ false → (filter (is_here_at f) (vm_places o) ≡ []) × (is_listed f (vm_overhead o) ≡ false)
vm_unnamed f None h = (refl, refl)
vm_unnamed f (Some v) h =
    let parts = or_false (is_listed f v.overhead) (list_any (is_here_at f) v.places) h in
    (any_none (is_here_at f) v.places parts.1, parts.0)

unnamed : (f : ℕ) (vms : List (Option Vm)) → list_any (vm_names f) vms ≡ false → (filter (is_here_at f) (flat_map vm_places vms) ≡ []) × (is_listed f (flat_map vm_overhead vms) ≡ false)
unnamed f [] h = (refl, refl)
unnamed f (o ∷ os) h =
    let parts = or_false (vm_names f o) (list_any (vm_names f) os) h in
    let one = vm_unnamed f o parts.0 in
    let rest = unnamed f os parts.1 in (
      filter-append (is_here_at f) (vm_places o) (flat_map vm_places os) ∙ ap (λ m. m ++ filter (is_here_at f) (flat_map vm_places os)) one.0 ∙ rest.0,
      list_any-append (λ g. g == f) (vm_overhead o) (flat_map vm_overhead os) ∙ ap (λ b. b || is_listed f (flat_map vm_overhead os)) one.1 ∙ rest.1,
    )

pub least_unused : (count : ℕ) (s : Site) (f : ℕ) → least_free count s ≡ Some f → IsUnused count s f
unfolding least_free all_places all_overhead
least_unused count s f h =
    let parts = unnamed f s.vms (not_true (is_named s f) (find_passes (λ g. not (is_named s g)) (range_with_len 0 count) f h)) in
    record { below = (let within = find_in_range (λ g. not (is_named s g)) 0 count f h in omega arith); pages = parts.0; clear = parts.1 }

vm_holds_none : (i : ℕ) (o : Option Vm) → vm_holds i o ≡ false → filter (is_out_at i) (vm_places o) ≡ []
vm_holds_none i None h = refl
vm_holds_none i (Some v) h = any_none (is_out_at i) v.places h

none_held : (i : ℕ) (vms : List (Option Vm)) → list_any (vm_holds i) vms ≡ false → filter (is_out_at i) (flat_map vm_places vms) ≡ []
none_held i [] h = refl
none_held i (o ∷ os) h =
    let parts = or_false (vm_holds i o) (list_any (vm_holds i) os) h in
    filter-append (is_out_at i) (vm_places o) (flat_map vm_places os) ∙ ap (λ m. m ++ filter (is_out_at i) (flat_map vm_places os)) (vm_holds_none i o parts.0) ∙ none_held i os parts.1

-- a slot that no page is in
pub slot_unused : (count : ℕ) (s : Site) (i : ℕ) → least_slot count s ≡ Some i → (i < count) × (pages_out s i ≡ [])
unfolding least_slot all_places
slot_unused count s i h =
    ((let within = find_in_range (λ g. not (is_held s g)) 0 count i h in omega arith), none_held i s.vms (not_true (is_held s i) (find_passes (λ g. not (is_held s g)) (range_with_len 0 count) i h)))

-- Rooms.

pub room_nowhere : (c : Config) (s : Site) (p : Place) → Room c s p Untouched
room_nowhere c s p ps qs ch is fine = tt

pub room_lent : (c : Config) (s : Site) (p : Place) (e : ℕ) → Room c s p (Lent e)
room_lent c s p e ps qs ch is fine = tt

pub room_unused : (c : Config) (s : Site) (p : Place) (bytes : List ℕ) (f : ℕ) → pages_in s f ≡ [] → is_listed f (all_overhead s) ≡ false → Room c s p (Here bytes f false)
room_unused c s p bytes f none clear ps qs ch is fine =
    fits_free (between p (Here bytes f false) ps qs ch) (all_overhead s) bytes f clear (none_on_the_way p (Here bytes f false) ps qs ch f (ap (in_frame f) is ∙ none))

pub room_free : (c : Config) (s : Site) (p : Place) (bytes : List ℕ) (f : ℕ) → least_free c.frames s ≡ Some f → Room c s p (Here bytes f false)
room_free c s p bytes f h = let unused = least_unused c.frames s f h in room_unused c s p bytes f unused.pages unused.clear

pub room_empty : (c : Config) (s : Site) (p : Place) (bytes : List ℕ) (i : ℕ) → pages_out s i ≡ [] → Room c s p (Out bytes i)
room_empty c s p bytes i none ps qs ch is fine = ap slot_of (no_slot_on_the_way p (Out bytes i) ps qs ch i (ap (in_slot i) is ∙ none))

pub room_slot : (c : Config) (s : Site) (p : Place) (bytes : List ℕ) (i : ℕ) → least_slot c.slots s ≡ Some i → Room c s p (Out bytes i)
room_slot c s p bytes i h = room_empty c s p bytes i (slot_unused c.slots s i h).1

-- its own frame, where it is alone
pub room_alone : (c : Config) (s : Site) (b : List ℕ) (f : ℕ) (sh : Bool) (bytes : List ℕ) → length (pages_in s f) ≤ 1 → is_listed f (all_overhead s) ≡ false → Room c s (Here b f sh) (Here bytes f false)
room_alone c s b f sh bytes one clear ps qs ch is fine =
    let P : List Place → Type 0 = λ xs. length (in_frame f xs) ≤ 1 in
    fits_free (between (Here b f sh) (Here bytes f false) ps qs ch) (all_overhead s) bytes f clear (alone_on_the_way b f sh (Here bytes f false) ps qs ch (subst P (sym is) one))

-- its own frame, to be shared where no frame is shared under its key
pub room_to_share : (c : Config) (s : Site) (b : List ℕ) (f : ℕ) (sh : Bool) (bytes : List ℕ) → length (pages_in s f) ≤ 1 → is_listed f (all_overhead s) ≡ false
    → ((g : ℕ) → key_of_row (row_of (pages_in s g)) ≢ Some (content_key bytes)) → Room c s (Here b f sh) (Here bytes f true)
room_to_share c s b f sh bytes one clear fresh ps qs ch is fine =
    let P : List Place → Type 0 = λ xs. length (in_frame f xs) ≤ 1 in
    let mid = between (Here b f sh) (Here bytes f true) ps qs ch in
    let none = alone_on_the_way b f sh (Here bytes f true) ps qs ch (subst P (sym is) one) in
    fits_new_share mid (all_overhead s) bytes f clear none (λ g h. of g (g == f) refl h)
  where
    of : (g : ℕ) (t : Bool) → (g == f) ≡ t → key_of_row (row_of (in_frame g (between (Here b f sh) (Here bytes f true) ps qs ch))) ≡ Some (content_key bytes) → g ≡ f
    of g true e h = grind (arith, nat_tests)
    of g false e h =
        let other : (f == g) ≡ false = grind (arith, nat_tests) in
        absurd (fresh g (ap (λ xs. key_of_row (row_of xs)) (sym (others_on_the_way (Here b f sh) (Here bytes f true) ps qs ch g other ∙ ap (in_frame g) is)) ∙ h))

-- a frame that is shared with its bytes, where it is not
pub room_shared : (c : Config) (s : Site) (p : Place) (bytes : List ℕ) (f count : ℕ) → is_here_at f p ≡ false → is_listed f (all_overhead s) ≡ false → row_of (pages_in s f) ≡ frames.Shared count bytes
    → Room c s p (Here bytes f true)
room_shared c s p bytes f count other clear row ps qs ch is fine =
    let mid = between p (Here bytes f true) ps qs ch in
    fits_share c.frames mid (all_overhead s) bytes f count fine clear (ap row_of (others_on_the_way p (Here bytes f true) ps qs ch f other ∙ ap (in_frame f) is) ∙ row)

-- The row of the frame that a page is in.

abbrev pub IsRowOf : List ℕ → Bool → FrameRow → Type 0
IsRowOf bytes shared frames.Free = ⊥
IsRowOf bytes shared frames.Overhead = ⊥
IsRowOf bytes shared (frames.Private kept) = (shared ≡ false) × (kept ≡ bytes)
IsRowOf bytes shared (frames.Shared count kept) = (shared ≡ true) × (kept ≡ bytes) × (1 ≤ count)

one_same : (fs bs : List Place) (x y : Place) (k : ℕ) → fs ++ x ∷ bs ≡ replicate k y → x ≡ y
one_same [] bs x y zero h = cc
one_same [] bs x y (suc k) h = cc
one_same (a ∷ fs) bs x y zero h = cc
one_same (a ∷ fs) bs x y (suc k) h = one_same fs bs x y k (let e : fs ++ x ∷ bs ≡ replicate k y = cc in e)

some_many : (fs bs : List Place) (x y : Place) (k : ℕ) → fs ++ x ∷ bs ≡ replicate k y → 1 ≤ k
some_many fs bs x y zero h = absurd (not_none fs bs x h)
some_many fs bs x y (suc k) h = omega arith

pub row_with : (f : ℕ) (bytes : List ℕ) (shared : Bool) (fs bs : List Place) (row : FrameRow) → fs ++ Here bytes f shared ∷ bs ≡ pages_for f row → IsRowOf bytes shared row
row_with f bytes shared fs bs frames.Free h = absurd (not_none fs bs (Here bytes f shared) h)
row_with f bytes shared fs bs frames.Overhead h = absurd (not_none fs bs (Here bytes f shared) h)
row_with f bytes shared fs bs (frames.Private kept) h = (let e = one_same fs bs (Here bytes f shared) (Here kept f false) 1 h in (cc, cc))
row_with f bytes shared fs bs (frames.Shared count kept) h =
    (let e = one_same fs bs (Here bytes f shared) (Here kept f true) count h in (cc, cc, some_many fs bs (Here bytes f shared) (Here kept f true) count h))

-- A page that some pages have in frame f.
pub record IsIn (ps : List Place) (p : Place) : Type 0 where
  pub front : List Place
  pub back : List Place
  pub is : ps ≡ front ++ p ∷ back

pub is_in_changed : (p q : Place) (ps qs : List Place) → Changed p q ps qs → IsIn ps p
is_in_changed p q ps qs ch = record { front = ch.front; back = ch.back; is = ch.before }

pub is_in_after : (p q : Place) (ps qs : List Place) → Changed p q ps qs → IsIn qs q
is_in_after p q ps qs ch = record { front = ch.front; back = ch.back; is = ch.after }

pub frame_with : (ps : List Place) (bytes : List ℕ) (f : ℕ) (shared : Bool) (i : IsIn ps (Here bytes f shared))
    → in_frame f ps ≡ filter (is_here_at f) i.front ++ Here bytes f shared ∷ filter (is_here_at f) i.back
frame_with ps bytes f shared i =
    let p : Place = Here bytes f shared in
    let bs = filter (is_here_at f) i.back in
    ap (in_frame f) i.is ∙ filter-append (is_here_at f) i.front (p ∷ i.back) ∙ ap (λ b. filter (is_here_at f) i.front ++ cond b (p ∷ bs) bs) (eqb_same f)

pub row_here : (n : ℕ) (ps : List Place) (os : List ℕ) (bytes : List ℕ) (f : ℕ) (shared : Bool) → AreFrames n ps os → IsIn ps (Here bytes f shared)
    → IsRowOf bytes shared (row_of (in_frame f ps)) × (is_listed f os ≡ false)
row_here n ps os bytes f shared fine i =
    let fs = filter (is_here_at f) i.front in
    let bs = filter (is_here_at f) i.back in
    let split = frame_with ps bytes f shared i in
    (row_with f bytes shared fs bs (row_of (in_frame f ps)) (sym split ∙ fine.alike f), clear_where n ps os f fs bs (Here bytes f shared) fine split)

-- a private page is alone in its frame
pub private_alone : (n : ℕ) (ps : List Place) (os : List ℕ) (bytes : List ℕ) (f : ℕ) → AreFrames n ps os → IsIn ps (Here bytes f false) → length (in_frame f ps) ≤ 1
private_alone n ps os bytes f fine i = of (row_of (in_frame f ps)) (row_here n ps os bytes f false fine i).0 (fine.alike f)
  where
    of : (row : FrameRow) → IsRowOf bytes false row → in_frame f ps ≡ pages_for f row → length (in_frame f ps) ≤ 1
    of frames.Free h e = absurd h
    of frames.Overhead h e = absurd h
    of (frames.Private kept) h e = (let d : length (in_frame f ps) ≡ 1 = ap length e in omega arith)
    of (frames.Shared count kept) h e = absurd (false≢true h.0)

-- the row of a private page's frame
pub private_row : (n : ℕ) (ps : List Place) (os : List ℕ) (bytes : List ℕ) (f : ℕ) → AreFrames n ps os → IsIn ps (Here bytes f false) → row_of (in_frame f ps) ≡ frames.Private bytes
private_row n ps os bytes f fine i = of (row_of (in_frame f ps)) (row_here n ps os bytes f false fine i).0 refl
  where
    of : (row : FrameRow) → IsRowOf bytes false row → row_of (in_frame f ps) ≡ row → row_of (in_frame f ps) ≡ frames.Private bytes
    of frames.Free h e = absurd h
    of frames.Overhead h e = absurd h
    of (frames.Private kept) h e = e ∙ ap frames.Private h.1
    of (frames.Shared count kept) h e = absurd (false≢true h.0)

-- the row of a shared page's frame
pub shared_row : (n : ℕ) (ps : List Place) (os : List ℕ) (bytes : List ℕ) (f : ℕ) → AreFrames n ps os → IsIn ps (Here bytes f true) → (count : ℕ) × (row_of (in_frame f ps) ≡ frames.Shared count bytes)
shared_row n ps os bytes f fine i = of (row_of (in_frame f ps)) (row_here n ps os bytes f true fine i).0 refl
  where
    of : (row : FrameRow) → IsRowOf bytes true row → row_of (in_frame f ps) ≡ row → (count : ℕ) × (row_of (in_frame f ps) ≡ frames.Shared count bytes)
    of frames.Free h e = absurd h
    of frames.Overhead h e = absurd h
    of (frames.Private kept) h e = absurd (false≢true (sym h.0))
    of (frames.Shared count kept) h e = (count, e ∙ ap (λ b. frames.Shared count b) h.1)

-- a private page and a shared one are in two frames
pub apart_frames : (n : ℕ) (ps : List Place) (os : List ℕ) (b bytes : List ℕ) (g f : ℕ) → AreFrames n ps os → IsIn ps (Here b g false) → IsIn ps (Here bytes f true) → (g == f) ≡ false
apart_frames n ps os b bytes g f fine own other = of (g == f) refl
  where
    both : (row : FrameRow) → IsRowOf b false row → IsRowOf bytes true row → ⊥
    both frames.Free h k = h
    both frames.Overhead h k = h
    both (frames.Private kept) h k = false≢true (sym k.0)
    both (frames.Shared count kept) h k = false≢true h.0

    of : (t : Bool) → (g == f) ≡ t → (g == f) ≡ false
    of false e = e
    of true e =
        let same : g ≡ f = grind (arith, nat_tests) in
        let P : ℕ → Type 0 = λ k. IsRowOf b false (row_of (in_frame k ps)) in
        absurd (both (row_of (in_frame f ps)) (subst P same (row_here n ps os b g false fine own).0) (row_here n ps os bytes f true fine other).0)

-- The frame that a page is in, again.

fits_less : (count : ℕ) (bytes : List ℕ) (b : Bool) → FitsRow bytes true (cond b (frames.Shared (count - 1) bytes) frames.Free)
fits_less count bytes true = (refl, refl)
fits_less count bytes false = tt

room_stays_shared : (c : Config) (s : Site) (bytes : List ℕ) (f : ℕ) → AreFrames c.frames (all_places s) (all_overhead s) → Room c s (Here bytes f true) (Here bytes f true)
room_stays_shared c s bytes f fine ps qs ch is mid_fine =
    let p : Place = Here bytes f true in
    let mid = between p p ps qs ch in
    let P : List Place → Type 0 = λ xs. AreFrames c.frames xs (all_overhead s) in
    let old : AreFrames c.frames ps (all_overhead s) = subst P (sym is) fine in
    let row = shared_row c.frames ps (all_overhead s) bytes f old (is_in_changed p p ps qs ch) in
    let left = frame_left c.frames ps mid (all_overhead s) bytes f true Untouched old (goes_off p p ps qs ch) untouched_nowhere in
    let Q : FrameRow → Type 0 = FitsRow bytes true in
    record {
      clear = (row_here c.frames ps (all_overhead s) bytes f true old (is_in_changed p p ps qs ch)).1;
      row = subst Q (sym (left.inside.is ∙ ap less row.1)) (fits_less row.0 bytes (nat_lt 1 row.0));
      fresh = λ e g h. of g row old (g == f) refl h;
    }
  where
    of : (g : ℕ) → (count : ℕ) × (row_of (in_frame f ps) ≡ frames.Shared count bytes) → AreFrames c.frames ps (all_overhead s) → (t : Bool) → (g == f) ≡ t
        → key_of_row (row_of (in_frame g (between (Here bytes f true) (Here bytes f true) ps qs ch))) ≡ Some (content_key bytes) → g ≡ f
    of g row old true e h = grind (arith, nat_tests)
    of g row old false e h =
        let other : (f == g) ≡ false = grind (arith, nat_tests) in
        old.keys g f (content_key bytes) (ap (λ xs. key_of_row (row_of xs)) (sym (others_on_the_way (Here bytes f true) (Here bytes f true) ps qs ch g other)) ∙ h) (ap key_of_row row.1)

-- a page that stays where it is
pub room_again : (c : Config) (s : Site) (bytes : List ℕ) (f : ℕ) (shared : Bool) → AreFrames c.frames (all_places s) (all_overhead s) → IsIn (all_places s) (Here bytes f shared) → Room c s (Here bytes f shared) (Here bytes f shared)
room_again c s bytes f false fine i =
    room_alone c s bytes f false bytes (private_alone c.frames (all_places s) (all_overhead s) bytes f fine i) (row_here c.frames (all_places s) (all_overhead s) bytes f false fine i).1
room_again c s bytes f true fine i = room_stays_shared c s bytes f fine

-- as many pages are in a frame as are counted there

pages_of_is : (f : ℕ) (o : Option Vm) → pages_of f o ≡ length (filter (is_here_at f) (vm_places o))
pages_of_is f None = refl
pages_of_is f (Some v) = sym (length-filter (is_here_at f) v.places)

pages_by_vm : (f : ℕ) (vms : List (Option Vm)) → sum_by (pages_of f) vms ≡ length (filter (is_here_at f) (flat_map vm_places vms))
pages_by_vm f [] = refl
pages_by_vm f (o ∷ os) =
    let more = sum_by-cons (pages_of f) o os in
    let here = pages_of_is f o in
    let rest = pages_by_vm f os in
    let split = ap length (filter-append (is_here_at f) (vm_places o) (flat_map vm_places os)) in
    let both = length-append (filter (is_here_at f) (vm_places o)) (filter (is_here_at f) (flat_map vm_places os)) in
    omega (arith, more, here, rest, split, both)

pub pages_at_is : (f : ℕ) (s : Site) → pages_at f s ≡ length (pages_in s f)
unfolding pages_at all_places
pages_at_is f s = pages_by_vm f s.vms
