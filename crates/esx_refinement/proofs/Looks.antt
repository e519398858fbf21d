-- A look over the tables of a sound site finds what a look at the site finds.
use Rattle.std.proofs.Common.{◌≡◌, ◌≢◌, ℕ, ◌<◌, ◌≤◌, Bool, true, false, not, ◌&&◌, List, [], ◌∷◌, length, map, refl, sym, ap, ◌∙◌, subst, arith, cond, Option, Some, None, inl, inr, ◌==◌}
use Rattle.std.specs.Prelude.{bytes_eq}
use Rattle.std.specs.List.{filter, find, position_from, range_with_len, AllByRecursion}
use Rattle.std.proofs.lemmas.Bool.{false≢true}
use Rattle.std.proofs.lemmas.Bool.Decides.{nat_tests}
use Rattle.std.proofs.lemmas.List.FromFn.{length-map-range_with_len}
use Rattle.std.proofs.lemmas.Slice.Eq.{bytes_eq-Decides}
use Rattle.esx_lists.proofs.Positions.{first_is, first_is_none}
use Rattle.esx_types.specs.declared.config.Config.{Config}
use Rattle.esx_types.specs.declared.table.FrameRow.{FrameRow}
use Rattle.esx_types.specs.declared.table.FrameRow.TheVariants as frames
use Rattle.esx_types.specs.declared.table.Hint.{Hint}
use Rattle.esx_types.specs.declared.table.Listing.TheVariants as listings
use Rattle.esx_types.specs.Frames.{frame_at, bytes_of}
use Rattle.esx_types.specs.Listings.{listing_at, is_shared_under, is_hinted_under}
use Rattle.esx_formulas.specs.Key.{content_key, hint_key}
use Rattle.esx_model.specs.declared.look.Look.TheVariants.{OtherPage, Changed, OtherBytes, Nothing}
use Rattle.esx_model.specs.declared.scene.Place.{Place}
use Rattle.esx_model.specs.declared.scene.Place.TheVariants.{Untouched, Here, Out, Lent}
use Rattle.esx_model.specs.declared.scene.Vm.{Vm}
use Rattle.esx_model.specs.declared.scene.Site.{Site}
use Rattle.esx_model.specs.Places.{is_here, is_here_at, is_private}
use Rattle.esx_model.specs.Site.{vm_at, place_at, place_in, place_of, all_places, all_overhead}
use Rattle.esx_model.specs.Show.{pages_in, is_listed, row_of, frame_row}
use Rattle.esx_model.specs.Tables.{is_hint_in, hint_listing, listing_by, listing_row, listing_rows, tables_of}
use Rattle.esx_model.specs.Hints.{is_hint_of, other_hint}
use Rattle.esx_model.specs.event.Sharing as model
use Rattle.esx_model.specs.sound.Frames.{key_of_row}
use Rattle.esx_model.specs.sound.Hints.{AreOrdered}
use Rattle.esx_model.specs.sound.Sound.{IsSound}
use Rattle.esx_model.proofs.Callers.{IsIn, page_is_in, row_here, shared_row, private_row, row_by, row_clear, listing_is, row_in_rows, one_hint, other_hint_private, chosen, find_passes, find_in, all_middle, some_same, eqb_same, nothing_passes, no_share, frame_below, place_within}
use Rattle.esx_sharing.specs.Sharing.{look_at_shared, look_at_hinted, look_at_hint, look_by_key, look_in}

-- The one row of a table that passes a test.

-- row o alone passes, of those that h gives, or none does
abbrev pub IsOnly : {X : Type 0} → (X → Bool) → (ℕ → X) → ℕ → Option ℕ → Type 0
IsOnly p h n None = (f : ℕ) → p (h f) ≡ false
IsOnly p h n (Some g) = (g < n) × (p (h g) ≡ true) × ((f : ℕ) → p (h f) ≡ true → f ≡ g)

only_found : {X : Type 0} (p : X → Bool) (h : ℕ → X) (n : ℕ) (d : X) (o : Option ℕ) → IsOnly p h n o → position_from p 0 (map h (range_with_len 0 n)) ≡ o
only_found {X = X} p h n d None only =
    let rows : List X = map h (range_with_len 0 n) in
    let len : length rows ≡ n = length-map-range_with_len h 0 n in
    first_is_none p rows d (λ k below. ap p (row_in_rows h n k d (omega (arith, len, below))) ∙ only k)
only_found {X = X} p h n d (Some g) only =
    let rows : List X = map h (range_with_len 0 n) in
    let len : length rows ≡ n = length-map-range_with_len h 0 n in
    first_is p rows g d (omega (arith, len, only.0)) (ap p (row_in_rows h n g d only.0) ∙ only.1)
    (λ k before. ap p (row_in_rows h n k d (omega (arith, before, only.0))) ∙ fails k before (p (h k)) refl)
  where
    fails : (k : ℕ) → k < g → (b : Bool) → p (h k) ≡ b → b ≡ false
    fails k before false e = refl
    fails k before true e = absurd (let same = only.2 k e in omega (arith, same, before))

-- What stands in a frame.

pub frame_shared : (c : Config) (s : Site) (bytes : List ℕ) (f : ℕ) → IsSound c s → IsIn (all_places s) (Here bytes f true) → (count : ℕ) × (frame_row s f ≡ frames.Shared count bytes)
frame_shared c s bytes f sound i =
    let row = shared_row c.frames (all_places s) (all_overhead s) bytes f sound.frames i in
    (row.0, row_clear s f (row_here c.frames (all_places s) (all_overhead s) bytes f true sound.frames i).1 ∙ row.1)

pub frame_private : (c : Config) (s : Site) (bytes : List ℕ) (f : ℕ) → IsSound c s → IsIn (all_places s) (Here bytes f false) → frame_row s f ≡ frames.Private bytes
frame_private c s bytes f sound i =
    row_clear s f (row_here c.frames (all_places s) (all_overhead s) bytes f false sound.frames i).1 ∙ private_row c.frames (all_places s) (all_overhead s) bytes f sound.frames i

-- a page of a machine is one of the site's
pub own_page : (s : Site) (n page : ℕ) (v : Vm) (bytes : List ℕ) (f : ℕ) (shared : Bool) → vm_at s n ≡ Some v → place_at v page ≡ Here bytes f shared → IsIn (all_places s) (Here bytes f shared)
own_page s n page v bytes f shared there was =
    let P : Place → Type 0 = IsIn (all_places s) in
    subst P was (page_is_in s n page v there (place_within v.places page (ap is_here was)))

pub row_at_frame : (c : Config) (s : Site) (f : ℕ) → f < c.frames → frame_at (tables_of c s).frames f ≡ frame_row s f
row_at_frame c s f below = row_in_rows (frame_row s) c.frames f frames.Free below

pub private_row_at : (c : Config) (s : Site) (n page : ℕ) (v : Vm) (bytes : List ℕ) (f : ℕ) → IsSound c s → vm_at s n ≡ Some v → place_at v page ≡ Here bytes f false → frame_at (tables_of c s).frames f ≡ frames.Private bytes
private_row_at c s n page v bytes f sound there was =
    let i = own_page s n page v bytes f false there was in
    row_at_frame c s f (frame_below c s bytes f false sound i) ∙ frame_private c s bytes f sound i

-- A frame that is shared under a key.

key_of_shared : (key : ℕ) (r : FrameRow) (o : Option Hint) → is_shared_under key (listing_by r o) ≡ true → key_of_row r ≡ Some key
key_of_shared key frames.Free o h = cc
key_of_shared key frames.Overhead o h = cc
key_of_shared key (frames.Private bytes) None h = cc
key_of_shared key (frames.Private bytes) (Some hint) h = cc
key_of_shared key (frames.Shared count bytes) o h = (let same : content_key bytes ≡ key = grind (arith, nat_tests) in ap (λ k. Some k) same)

key_not_overhead : (b : Bool) (r : FrameRow) (key : ℕ) → key_of_row (cond b frames.Overhead r) ≡ Some key → key_of_row r ≡ Some key
key_not_overhead true r key h = cc
key_not_overhead false r key h = h

key_of_listing : (s : Site) (key f : ℕ) → is_shared_under key (listing_row s f) ≡ true → key_of_row (row_of (pages_in s f)) ≡ Some key
key_of_listing s key f h =
    key_not_overhead (is_listed f (all_overhead s)) (row_of (pages_in s f)) key
    (ap key_of_row (sym (row_by s f)) ∙ key_of_shared key (frame_row s f) (find (is_hint_in s f) s.hints) (ap (is_shared_under key) (sym (listing_is s f)) ∙ h))

-- the frame that a look at a shared page finds
pub record SharesFrame (c : Config) (s : Site) (key : ℕ) (p : Place) : Type 0 where
  pub bytes : List ℕ
  pub frame : ℕ
  pub is : p ≡ Here bytes frame true
  pub inside : IsIn (all_places s) (Here bytes frame true)
  pub below : frame < c.frames
  pub only : IsOnly (is_shared_under key) (listing_row s) c.frames (Some frame)

shares : (c : Config) (s : Site) (key : ℕ) (p : Place) → IsSound c s → IsIn (all_places s) p → model.is_shared_under key p ≡ true → SharesFrame c s key p
shares c s key Untouched sound i h = cc
shares c s key (Out bytes j) sound i h = cc
shares c s key (Lent e) sound i h = cc
shares c s key (Here bytes f false) sound i h = cc
shares c s key (Here bytes f true) sound i h =
    let below = frame_below c s bytes f true sound i in
    let row = frame_shared c s bytes f sound i in
    let here : is_shared_under key (listing_row s f) ≡ true = ap (is_shared_under key) (listing_is s f ∙ ap (λ r. listing_by r (find (is_hint_in s f) s.hints)) row.1) ∙ h in
    record {
      bytes = bytes;
      frame = f;
      is = refl;
      inside = i;
      below = below;
      only = (below, here, λ g e. sound.frames.keys g f key (key_of_listing s key g e) (key_of_listing s key f here));
    }

shares_none : (c : Config) (s : Site) (key : ℕ) → model.shared_under key s ≡ None → IsOnly (is_shared_under key) (listing_row s) c.frames None
shares_none c s key none f = of (is_shared_under key (listing_row s f)) refl
  where
    of : (b : Bool) → is_shared_under key (listing_row s f) ≡ b → is_shared_under key (listing_row s f) ≡ false
    of false e = e
    of true e = absurd (no_share s key none f (key_of_listing s key f e))

-- The hint under a key.

all_found : {X : Type 0} (P : X → Type 0) (p : X → Bool) (xs : List X) (x : X) → AllByRecursion P xs → find p xs ≡ Some x → P x
all_found {X = X} P p xs x all found =
    let split = find_in p xs x found in
    let Q : List X → Type 0 = AllByRecursion P in
    all_middle P split.0 split.1 x (subst Q split.2 all)

-- one hint at most stands under a key
one_under : (key : ℕ) (q : Hint → Bool) (hints : List Hint) (h : Hint) → AreOrdered hints → find q hints ≡ Some h → (h.key == key) ≡ true → find (λ (x : Hint). x.key == key) hints ≡ Some h
one_under key q [] h ordered found under = cc
one_under key q (x ∷ xs) h ordered found under = elim (chosen (q x) (Some x) (find q xs) (Some h) found) [
  | inl w ↦ ap (λ b. cond b (Some x) (find (λ (y : Hint). y.key == key) xs)) (ap (λ (y : Hint). y.key == key) (some_same x h w.1) ∙ under) ∙ w.1
  | inr w ↦ of (x.key == key) refl (all_found (λ (later : Hint). x.key < later.key) q xs h ordered.0 w.1) (one_under key q xs h ordered.1 w.1 under)
]
  where
    of : (b : Bool) → (x.key == key) ≡ b → x.key < h.key → find (λ (y : Hint). y.key == key) xs ≡ Some h → find (λ (y : Hint). y.key == key) (x ∷ xs) ≡ Some h
    of true e less rest = absurd (grind (arith, nat_tests))
    of false e less rest = ap (λ b. cond b (Some x) (find (λ (y : Hint). y.key == key) xs)) e ∙ rest

-- where one passes at most, it is what is found
found_alone : {X : Type 0} (p q : X → Bool) (xs : List X) (x : X) → find q xs ≡ Some x → p x ≡ true → length (filter p xs) ≤ 1 → find p xs ≡ Some x
found_alone p q [] x found passes few = cc
found_alone p q (y ∷ ys) x found passes few = elim (chosen (q y) (Some y) (find q ys) (Some x) found) [
  | inl w ↦ ap (λ b. cond b (Some y) (find p ys)) (ap p (some_same y x w.1) ∙ passes) ∙ w.1
  | inr w ↦ of p ys x y (p y) refl few (λ less. found_alone p q ys x w.1 passes less)
]
  where
    of : {X : Type 0} (p : X → Bool) (ys : List X) (x y : X) (b : Bool) → p y ≡ b → length (filter p (y ∷ ys)) ≤ 1 → (length (filter p ys) ≤ 1 → find p ys ≡ Some x) → find p (y ∷ ys) ≡ Some x
    of p ys x y true e few rest =
        let count : length (filter p (y ∷ ys)) ≡ length (y ∷ filter p ys) = ap (λ b. length (cond b (y ∷ filter p ys) (filter p ys))) e in
        let none = nothing_passes p ys (omega (arith, count, few)) in
        let some = rest (omega (arith, count, few)) in cc
    of p ys x y false e few rest =
        let count : length (filter p (y ∷ ys)) ≡ length (filter p ys) = ap (λ b. length (cond b (y ∷ filter p ys) (filter p ys))) e in
        ap (λ b. cond b (Some y) (find p ys)) e ∙ rest (omega (arith, count, few))

-- what passes is found
found_some : {X : Type 0} (p q : X → Bool) (xs : List X) (x : X) → find q xs ≡ Some x → p x ≡ true → find p xs ≢ None
found_some p q [] x found passes none = cc
found_some p q (y ∷ ys) x found passes none = elim (chosen (p y) (Some y) (find p ys) None none) [
  | inl w ↦ cc
  | inr w ↦ elim (chosen (q y) (Some y) (find q ys) (Some x) found) [
    | inl u ↦ false≢true (sym w.0 ∙ ap p (some_same y x u.1) ∙ passes)
    | inr u ↦ found_some p q ys x u.1 passes w.1
  ]
]

-- a frame that stands under a key as a hint
hinted_by : (key : ℕ) (r : FrameRow) (o : Option Hint) → is_hinted_under key (listing_by r o) ≡ true → (h : Hint) × (o ≡ Some h) × ((h.key == key) ≡ true)
hinted_by key frames.Free o e = cc
hinted_by key frames.Overhead o e = cc
hinted_by key (frames.Private bytes) None e = cc
hinted_by key (frames.Private bytes) (Some h) e = (h, refl, e)
hinted_by key (frames.Shared count bytes) o e = cc

abbrev pub hint_under : ℕ → List Hint → Option Hint
hint_under key hints = find (λ (h : Hint). h.key == key) hints

hint_at : (c : Config) (s : Site) (key f : ℕ) → IsSound c s → is_hinted_under key (listing_row s f) ≡ true → (h : Hint) × (find (is_hint_in s f) s.hints ≡ Some h) × (hint_under key s.hints ≡ Some h)
hint_at c s key f sound e =
    let known = hinted_by key (frame_row s f) (find (is_hint_in s f) s.hints) (ap (is_hinted_under key) (sym (listing_is s f)) ∙ e) in
    (known.0, known.1, one_under key (is_hint_in s f) s.hints known.0 sound.hints.ordered known.1 known.2)

-- the page of a hint
pub record HintPage (s : Site) (h : Hint) : Type 0 where
  pub vm : Vm
  pub bytes : List ℕ
  pub frame : ℕ
  pub there : vm_at s h.vm ≡ Some vm
  pub place : place_at vm h.page ≡ Here bytes frame false

hint_page : (s : Site) (h : Hint) (o : Option Vm) (p : Place) → vm_at s h.vm ≡ o → place_in o h.page ≡ p → is_private p ≡ true → HintPage s h
hint_page s h o Untouched there was private = cc
hint_page s h o (Out bytes i) there was private = cc
hint_page s h o (Lent e) there was private = cc
hint_page s h o (Here bytes f true) there was private = cc
hint_page s h None (Here bytes f false) there was private = cc
hint_page s h (Some v) (Here bytes f false) there was private = record { vm = v; bytes = bytes; frame = f; there = there; place = was }

-- the frame of a hint
pub record HintFrame (c : Config) (s : Site) (key : ℕ) (h : Hint) : Type 0 where
  pub page : HintPage s h
  pub below : page.frame < c.frames
  pub row : frame_row s page.frame ≡ frames.Private page.bytes
  pub listing : listing_row s page.frame ≡ listings.Hinted h.vm h.page h.key
  pub only : IsOnly (is_hinted_under key) (listing_row s) c.frames (Some page.frame)

hint_frame : (c : Config) (s : Site) (key : ℕ) (h : Hint) → IsSound c s → hint_under key s.hints ≡ Some h → HintFrame c s key h
hint_frame c s key h sound found =
    let under : (h.key == key) ≡ true = find_passes (λ (x : Hint). x.key == key) s.hints h found in
    let private = all_found (λ (x : Hint). is_private (place_of s x.vm x.page) ≡ true) (λ (x : Hint). x.key == key) s.hints h sound.hints.private found in
    let page = hint_page s h (vm_at s h.vm) (place_of s h.vm h.page) refl refl private in
    let g = page.frame in
    let i = own_page s h.vm h.page page.vm page.bytes g false page.there page.place in
    let below = frame_below c s page.bytes g false sound i in
    let at : place_of s h.vm h.page ≡ Here page.bytes g false = ap (λ o. place_in o h.page) page.there ∙ page.place in
    let row = frame_private c s page.bytes g sound i in
    let alone = found_alone (is_hint_in s g) (λ (x : Hint). x.key == key) s.hints h found (ap (is_here_at g) at ∙ eqb_same g) (one_hint c s g sound) in
    let listing : listing_row s g ≡ listings.Hinted h.vm h.page h.key = listing_is s g ∙ ap (λ r. listing_by r (find (is_hint_in s g) s.hints)) row ∙ ap hint_listing alone in
    record {
      page = page;
      below = below;
      row = row;
      listing = listing;
      only = (
        below,
        ap (is_hinted_under key) listing ∙ under,
        λ f e. (
            let known = hint_at c s key f sound e in
            let same : h ≡ known.0 = some_same h known.0 (sym found ∙ known.2) in
            let here : is_here_at f (Here page.bytes g false) ≡ true = ap (is_here_at f) (sym at) ∙ ap (is_hint_in s f) same ∙ find_passes (is_hint_in s f) s.hints known.0 known.1 in
            grind (arith, nat_tests)),
      );
    }

hint_none : (c : Config) (s : Site) (key : ℕ) → IsSound c s → hint_under key s.hints ≡ None → IsOnly (is_hinted_under key) (listing_row s) c.frames None
hint_none c s key sound none f = of (is_hinted_under key (listing_row s f)) refl
  where
    of : (b : Bool) → is_hinted_under key (listing_row s f) ≡ b → is_hinted_under key (listing_row s f) ≡ false
    of false e = e
    of true e = absurd (let known = hint_at c s key f sound e in let d = sym none ∙ known.2 in cc)

-- one frame at most stands under a key as a hint, and a look finds it
pub hint_only : (c : Config) (s : Site) (key : ℕ) → IsSound c s → IsOnly (is_hinted_under key) (listing_row s) c.frames (position_from (is_hinted_under key) 0 (listing_rows c.frames s))
hint_only c s key sound = of (hint_under key s.hints) refl
  where
    at : (o : Option ℕ) → IsOnly (is_hinted_under key) (listing_row s) c.frames o → IsOnly (is_hinted_under key) (listing_row s) c.frames (position_from (is_hinted_under key) 0 (listing_rows c.frames s))
    at o only =
        let P : Option ℕ → Type 0 = IsOnly (is_hinted_under key) (listing_row s) c.frames in
        subst P (sym (only_found (is_hinted_under key) (listing_row s) c.frames listings.Unlisted o only)) only

    of : (o : Option Hint) → hint_under key s.hints ≡ o → IsOnly (is_hinted_under key) (listing_row s) c.frames (position_from (is_hinted_under key) 0 (listing_rows c.frames s))
    of None e = at None (hint_none c s key sound e)
    of (Some h) e = (let known = hint_frame c s key h sound e in at (Some known.page.frame) known.only)

-- The look.

equal_bytes : (a b : List ℕ) → bytes_eq a b ≡ true → a ≡ b
equal_bytes a b h = grind (bytes_eq-Decides, arith)

shared_place : (c : Config) (s : Site) (key : ℕ) (p : Place) → IsSound c s → model.shared_under key s ≡ Some p → SharesFrame c s key p
unfolding model.shared_under
shared_place c s key p sound found =
    let split = find_in (model.is_shared_under key) (all_places s) p found in
    shares c s key p sound (record { front = split.0; back = split.1; is = split.2 }) (find_passes (model.is_shared_under key) (all_places s) p found)

by_shared : (c : Config) (s : Site) (n page : ℕ) (bytes : List ℕ) (key : ℕ) (p : Place) → IsSound c s → SharesFrame c s key p
    → look_by_key (tables_of c s) n page bytes key (position_from (is_shared_under key) 0 (listing_rows c.frames s)) ≡ model.look_at_shared bytes p
by_shared c s n page bytes key p sound known =
    let g = known.frame in
    let row = frame_shared c s known.bytes g sound known.inside in
    ap (look_by_key (tables_of c s) n page bytes key) (only_found (is_shared_under key) (listing_row s) c.frames listings.Unlisted (Some g) known.only)
    ∙ ap (λ r. look_at_shared bytes (bytes_of r) g) (row_at_frame c s g known.below ∙ row.1)
    ∙ sym (ap (model.look_at_shared bytes) known.is)

-- the upper bits of the keys of equal bytes are one, so that bytes may be compared before keys
hinted_same : (n page : ℕ) (bytes others : List ℕ) (key g : ℕ) (h : Hint) → key ≡ hint_key bytes → h.key ≡ key → is_hint_of n page h ≡ false
    → look_at_hinted n page bytes key others g (listings.Hinted h.vm h.page h.key) ≡ model.look_at_hinted bytes h (Here others g false)
hinted_same n page bytes others key g h own under other =
    ap (λ b. cond b Nothing (cond (bytes_eq bytes others) (OtherPage h.vm h.page g) (cond (hint_key others == key) OtherBytes Changed))) other
    ∙ of (bytes_eq bytes others) (hint_key others == key) refl refl
    ∙ sym (ap (λ k. cond (not (hint_key others == k)) Changed (cond (bytes_eq bytes others) (OtherPage h.vm h.page g) OtherBytes)) under)
  where
    of : (a b : Bool) → bytes_eq bytes others ≡ a → (hint_key others == key) ≡ b → cond a (OtherPage h.vm h.page g) (cond b OtherBytes Changed) ≡ cond (not b) Changed (cond a (OtherPage h.vm h.page g) OtherBytes)
    of true true d e = refl
    of true false d e = absurd (let same : key ≡ hint_key others = own ∙ ap hint_key (equal_bytes bytes others d) in grind (arith, nat_tests))
    of false true d e = refl
    of false false d e = refl

by_hint : (c : Config) (s : Site) (n page : ℕ) (bytes : List ℕ) (key : ℕ) (h : Hint) → IsSound c s → key ≡ hint_key bytes → HintFrame c s key h → h.key ≡ key → is_hint_of n page h ≡ false
    → look_at_hint (tables_of c s) n page bytes key (position_from (is_hinted_under key) 0 (listing_rows c.frames s)) ≡ model.look_at_hint s bytes (Some h)
by_hint c s n page bytes key h sound own known under other =
    let g = known.page.frame in
    let at : place_of s h.vm h.page ≡ Here known.page.bytes g false = ap (λ o. place_in o h.page) known.page.there ∙ known.page.place in
    ap (look_at_hint (tables_of c s) n page bytes key) (only_found (is_hinted_under key) (listing_row s) c.frames listings.Unlisted (Some g) known.only)
    ∙ ap (λ r. look_at_hinted n page bytes key (bytes_of r) g (listing_at (listing_rows c.frames s) g)) (row_at_frame c s g known.below ∙ known.row)
    ∙ ap (look_at_hinted n page bytes key known.page.bytes g) (row_in_rows (listing_row s) c.frames g listings.Unlisted known.below ∙ known.listing)
    ∙ hinted_same n page bytes known.page.bytes key g h own under other
    ∙ sym (ap (model.look_at_hinted bytes h) at)

-- where no other page is hinted under the key the hint there is the page's own
own_hint_at : (c : Config) (s : Site) (n page : ℕ) (bytes : List ℕ) (key : ℕ) (h : Hint) → IsSound c s → HintFrame c s key h → is_hint_of n page h ≡ true
    → look_at_hint (tables_of c s) n page bytes key (position_from (is_hinted_under key) 0 (listing_rows c.frames s)) ≡ Nothing
own_hint_at c s n page bytes key h sound known own =
    let g = known.page.frame in
    let others = bytes_of (frame_at (tables_of c s).frames g) in
    ap (look_at_hint (tables_of c s) n page bytes key) (only_found (is_hinted_under key) (listing_row s) c.frames listings.Unlisted (Some g) known.only)
    ∙ ap (look_at_hinted n page bytes key others g) (row_in_rows (listing_row s) c.frames g listings.Unlisted known.below ∙ known.listing)
    ∙ ap (λ b. cond b Nothing (cond (bytes_eq bytes others) (OtherPage h.vm h.page g) (cond (hint_key others == key) OtherBytes Changed))) own

both_true : (a b : Bool) → a ≡ true → b ≡ false → (a && not b) ≡ true
both_true true true d e = cc
both_true true false d e = refl
both_true false b d e = cc

no_other : (c : Config) (s : Site) (n page : ℕ) (bytes : List ℕ) (key : ℕ) (o : Option Hint) → IsSound c s → other_hint key n page s.hints ≡ None → hint_under key s.hints ≡ o
    → look_at_hint (tables_of c s) n page bytes key (position_from (is_hinted_under key) 0 (listing_rows c.frames s)) ≡ Nothing
no_other c s n page bytes key None sound none found =
    ap (look_at_hint (tables_of c s) n page bytes key) (only_found (is_hinted_under key) (listing_row s) c.frames listings.Unlisted None (hint_none c s key sound found))
no_other c s n page bytes key (Some h) sound none found = own_hint_at c s n page bytes key h sound (hint_frame c s key h sound found) (of (is_hint_of n page h) refl)
  where
    of : (b : Bool) → is_hint_of n page h ≡ b → is_hint_of n page h ≡ true
    of true e = e
    of false e =
        absurd (found_some (λ (x : Hint). (x.key == key) && not (is_hint_of n page x)) (λ (x : Hint). x.key == key) s.hints h found
        (both_true (h.key == key) (is_hint_of n page h) (find_passes (λ (x : Hint). x.key == key) s.hints h found) e) none)

hints_meet : (c : Config) (s : Site) (n page : ℕ) (bytes : List ℕ) (key : ℕ) (o : Option Hint) → IsSound c s → key ≡ hint_key bytes → other_hint key n page s.hints ≡ o
    → look_at_hint (tables_of c s) n page bytes key (position_from (is_hinted_under key) 0 (listing_rows c.frames s)) ≡ model.look_at_hint s bytes o
hints_meet c s n page bytes key None sound own found = no_other c s n page bytes key (hint_under key s.hints) sound found refl
hints_meet c s n page bytes key (Some h) sound own found =
    let q : Hint → Bool = λ (x : Hint). (x.key == key) && not (is_hint_of n page x) in
    let known = other_hint_private (place_of s) key n page s.hints h sound.hints found in
    let test : (h.key == key) ≡ true = (let under = known.0 in grind (arith, nat_tests)) in
    let under = one_under key q s.hints h sound.hints.ordered found test in
    by_hint c s n page bytes key h sound own (hint_frame c s key h sound under) known.0 known.2

keys_meet : (c : Config) (s : Site) (n page : ℕ) (bytes : List ℕ) (o : Option Place) → IsSound c s → model.shared_under (content_key bytes) s ≡ o
    → look_by_key (tables_of c s) n page bytes (content_key bytes) (position_from (is_shared_under (content_key bytes)) 0 (listing_rows c.frames s)) ≡ model.look_private s n page bytes o
keys_meet c s n page bytes (Some p) sound found = by_shared c s n page bytes (content_key bytes) p sound (shared_place c s (content_key bytes) p sound found)
keys_meet c s n page bytes None sound found =
    ap (look_by_key (tables_of c s) n page bytes (content_key bytes))
    (only_found (is_shared_under (content_key bytes)) (listing_row s) c.frames listings.Unlisted None (shares_none c s (content_key bytes) found))
    ∙ hints_meet c s n page bytes (hint_key bytes) (other_hint (hint_key bytes) n page s.hints) sound refl refl

-- a look by the row of a page's frame is a look at the page
pub look_shown : (c : Config) (s : Site) (n page : ℕ) (v : Vm) (bytes : List ℕ) (f : ℕ) (shared : Bool) → IsSound c s → vm_at s n ≡ Some v → place_at v page ≡ Here bytes f shared
    → look_in (tables_of c s) n page (frame_at (tables_of c s).frames f) ≡ model.look s n page (Here bytes f shared)
unfolding look_in model.look
look_shown c s n page v bytes f true sound there was =
    let i = own_page s n page v bytes f true there was in
    ap (look_in (tables_of c s) n page) (row_at_frame c s f (frame_below c s bytes f true sound i) ∙ (frame_shared c s bytes f sound i).1)
look_shown c s n page v bytes f false sound there was =
    ap (look_in (tables_of c s) n page) (private_row_at c s n page v bytes f sound there was)
    ∙ keys_meet c s n page bytes (model.shared_under (content_key bytes) s) sound refl
