-- The row of the frame that a page of a sound site is in, and its listing.
use Rattle.std.proofs.Common.{zero, suc, ◌≡◌, ℕ, ◌<◌, Bool, true, false, ◌||◌, ◌==◌, List, [], ◌∷◌, length, get_or, refl, sym, ap, ◌∙◌, subst, arith, cond, Option, Some, None}
use Rattle.std.specs.Option.{is_some}
use Rattle.std.specs.List.{list_any, find}
use Rattle.std.proofs.lemmas.Bool.Decides.{nat_tests}
use Rattle.esx_types.specs.declared.config.Config.{Config}
use Rattle.esx_types.specs.declared.table.FrameRow.{FrameRow}
use Rattle.esx_types.specs.declared.table.FrameRow.TheVariants as frames
use Rattle.esx_types.specs.declared.table.Listing.TheVariants as listings
use Rattle.esx_types.specs.declared.table.Hint.{Hint}
use Rattle.esx_types.specs.Frames.{frame_at}
use Rattle.esx_types.specs.Listings.{listing_at}
use Rattle.esx_model.specs.declared.scene.Place.{Place}
use Rattle.esx_model.specs.declared.scene.Place.TheVariants.{Untouched, Here}
use Rattle.esx_model.specs.declared.scene.Vm.{Vm}
use Rattle.esx_model.specs.declared.scene.Site.{Site}
use Rattle.esx_model.specs.Places.{is_here_at, is_private}
use Rattle.esx_model.specs.Site.{vm_at, place_at, place_in, place_of, all_places, all_overhead, pages_at}
use Rattle.esx_model.specs.Hints.{is_hint_of}
use Rattle.esx_model.specs.Show.{row_of, pages_in, frame_row}
use Rattle.esx_model.specs.Tables.{tables_of, is_hint_in, hint_listing, listing_by, listing_row}
use Rattle.esx_model.specs.sound.Machines.{IsPlace}
use Rattle.esx_model.specs.sound.Sound.{IsSound}
use Rattle.esx_model.proofs.Callers.{IsIn, row_here, shared_row, private_row, row_clear, listing_is, page_is_in, one_page, count_in_frame, row_in_rows, all_at}
use Rattle.esx_machine.specs.Questions.{is_hinted}

-- A page in a frame.
pub record IsAt (c : Config) (s : Site) (n page : ℕ) (v : Vm) (bytes : List ℕ) (f : ℕ) (shared : Bool) : Type 0 where
  pub sound : IsSound c s
  pub there : vm_at s n ≡ Some v
  pub was : place_at v page ≡ Here bytes f shared

within : (ps : List Place) (k : ℕ) (bytes : List ℕ) (f : ℕ) (shared : Bool) → get_or ps k Untouched ≡ Here bytes f shared → k < length ps
within [] k bytes f shared h = cc
within (p ∷ ps) zero bytes f shared h = omega arith
within (p ∷ ps) (suc k) bytes f shared h = (let rest = within ps k bytes f shared h in omega (arith, rest))

below : (c : Config) (s : Site) (n page : ℕ) (v : Vm) (bytes : List ℕ) (f : ℕ) (shared : Bool) → IsAt c s n page v bytes f shared → f < c.frames
below c s n page v bytes f shared at =
    let P : Place → Type 0 = IsPlace c v.epoch in
    (subst P at.was (all_at P v.places page Untouched (at.sound.each n v at.there).places (within v.places page bytes f shared at.was))).0

is_in : (c : Config) (s : Site) (n page : ℕ) (v : Vm) (bytes : List ℕ) (f : ℕ) (shared : Bool) → IsAt c s n page v bytes f shared → IsIn (all_places s) (Here bytes f shared)
is_in c s n page v bytes f shared at =
    let P : Place → Type 0 = IsIn (all_places s) in
    subst P at.was (page_is_in s n page v at.there (within v.places page bytes f shared at.was))

row_at_frame : (c : Config) (s : Site) (f : ℕ) → f < c.frames → frame_at (tables_of c s).frames f ≡ frame_row s f
row_at_frame c s f low = row_in_rows (frame_row s) c.frames f frames.Free low

clear : (c : Config) (s : Site) (n page : ℕ) (v : Vm) (bytes : List ℕ) (f : ℕ) (shared : Bool) → IsAt c s n page v bytes f shared → frame_row s f ≡ row_of (pages_in s f)
clear c s n page v bytes f shared at = row_clear s f (row_here c.frames (all_places s) (all_overhead s) bytes f shared at.sound.frames (is_in c s n page v bytes f shared at)).1

private_in_site : (c : Config) (s : Site) (n page : ℕ) (v : Vm) (bytes : List ℕ) (f : ℕ) → IsAt c s n page v bytes f false → frame_row s f ≡ frames.Private bytes
private_in_site c s n page v bytes f at =
    clear c s n page v bytes f false at ∙ private_row c.frames (all_places s) (all_overhead s) bytes f at.sound.frames (is_in c s n page v bytes f false at)

pub private_at : (c : Config) (s : Site) (n page : ℕ) (v : Vm) (bytes : List ℕ) (f : ℕ) → IsAt c s n page v bytes f false → frame_at (tables_of c s).frames f ≡ frames.Private bytes
private_at c s n page v bytes f at = row_at_frame c s f (below c s n page v bytes f false at) ∙ private_in_site c s n page v bytes f at

pub shared_at : (c : Config) (s : Site) (n page : ℕ) (v : Vm) (bytes : List ℕ) (f : ℕ) → IsAt c s n page v bytes f true → frame_at (tables_of c s).frames f ≡ frames.Shared (pages_at f s) bytes
shared_at c s n page v bytes f at =
    let found = shared_row c.frames (all_places s) (all_overhead s) bytes f at.sound.frames (is_in c s n page v bytes f true at) in
    let row : frame_row s f ≡ frames.Shared found.0 bytes = clear c s n page v bytes f true at ∙ found.1 in
    row_at_frame c s f (below c s n page v bytes f true at) ∙ row ∙ ap (λ (k : ℕ). frames.Shared k bytes) (count_in_frame s f found.0 bytes row)

-- Its hint.

same_test : (a b : Bool) → (a ≡ true → b ≡ true) → (b ≡ true → a ≡ true) → a ≡ b
same_test true b to from = sym (to refl)
same_test false true to from = from refl
same_test false false to from = refl

any_same : {X : Type 0} (p q : X → Bool) (xs : List X) → ((x : X) → p x ≡ q x) → is_some (find p xs) ≡ list_any q xs
any_same p q [] same = refl
any_same {X = X} p q (x ∷ xs) same =
    ap (λ (b : Bool). is_some (cond b (Some x) (find p xs))) (same x) ∙ of (q x) (any_same p q xs same)
  where
    of : (b : Bool) → is_some (find p xs) ≡ list_any q xs → is_some (cond b (Some x) (find p xs)) ≡ (b || list_any q xs)
    of true rest = refl
    of false rest = rest

hinted_is : (o : Option Hint) → is_hinted (hint_listing o) ≡ is_some o
hinted_is None = refl
hinted_is (Some h) = refl

-- a hint of the frame is a hint of the page
one_of_page : (c : Config) (s : Site) (n page : ℕ) (v : Vm) (bytes : List ℕ) (f : ℕ) → IsAt c s n page v bytes f false → (h : Hint) → is_hint_in s f h ≡ is_hint_of n page h
one_of_page c s n page v bytes f at h =
    let here : place_of s n page ≡ Here bytes f false = ap (λ (o : Option Vm). place_in o page) at.there ∙ at.was in
    let own : is_here_at f (place_of s n page) ≡ true = ap (is_here_at f) here ∙ (let e : (f == f) ≡ true = grind (arith, nat_tests) in e) in
    same_test (is_hint_in s f h) (is_hint_of n page h)
    (λ in_frame. one_page c s n page h.vm h.page (vm_at s n) (place_of s n page) f at.sound refl refl (ap is_private here) own in_frame)
    (λ of_page.
    let vm : n ≡ h.vm = grind (arith, nat_tests) in
    let p : page ≡ h.page = grind (arith, nat_tests) in
    ap (λ (m : ℕ). is_here_at f (place_of s m h.page)) (sym vm) ∙ ap (λ (k : ℕ). is_here_at f (place_of s n k)) (sym p) ∙ own)

pub hinted_at : (c : Config) (s : Site) (n page : ℕ) (v : Vm) (bytes : List ℕ) (f : ℕ) → IsAt c s n page v bytes f false
    → is_hinted (listing_at (tables_of c s).listings f) ≡ list_any (is_hint_of n page) s.hints
hinted_at c s n page v bytes f at =
    ap is_hinted (row_in_rows (listing_row s) c.frames f listings.Unlisted (below c s n page v bytes f false at)
    ∙ listing_is s f
    ∙ ap (λ (r : FrameRow). listing_by r (find (is_hint_in s f) s.hints)) (private_in_site c s n page v bytes f at))
    ∙ hinted_is (find (is_hint_in s f) s.hints)
    ∙ any_same (is_hint_in s f) (is_hint_of n page) s.hints (one_of_page c s n page v bytes f at)
