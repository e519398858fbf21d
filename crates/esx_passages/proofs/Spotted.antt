-- What the tables say of a page, and the epoch of its machine, tell where the page is.
use Rattle.std.proofs.Common.{◌≡◌, ℕ, ◌<◌, ◌≤◌, Bool, true, false, nat_le, ◌==◌, List, length, map, get_or, refl, sym, ap, ◌∙◌, subst, arith, cond, Option, Some, None, Result, Ok, Err, inl, inr}
use Rattle.std.specs.Option.{option_map}
use Rattle.std.proofs.Math.ListN as listn
use Rattle.std.proofs.lemmas.Bool.{cases_lt}
use Rattle.std.proofs.lemmas.Bool.Decides.{nat_tests}
use Rattle.std.proofs.lemmas.List.{get_or_past}
use Rattle.esx_types.specs.declared.config.Config.{Config}
use Rattle.esx_types.specs.declared.table.FrameRow.{FrameRow}
use Rattle.esx_types.specs.declared.table.FrameRow.TheVariants as frames
use Rattle.esx_types.specs.declared.table.MapRow.TheVariants as maps
use Rattle.esx_types.specs.Frames.{frame_at}
use Rattle.esx_types.specs.Pages.{page_at}
use Rattle.esx_events.specs.declared.event.Refusal.{Refusal}
use Rattle.esx_events.specs.declared.event.Refusal.TheVariants.{OutOfRange}
use Rattle.esx_events.specs.declared.call.PageState.{PageState}
use Rattle.esx_model.specs.declared.book.Book.{Book}
use Rattle.esx_model.specs.declared.scene.Place.{Place}
use Rattle.esx_model.specs.declared.scene.Place.TheVariants as places
use Rattle.esx_model.specs.declared.scene.Vm.{Vm}
use Rattle.esx_model.specs.declared.scene.Site.{Site}
use Rattle.esx_model.specs.declared.scene.Scene.{Scene}
use Rattle.esx_model.specs.Site.{vm_at, place_at, all_places, all_overhead}
use Rattle.esx_model.specs.Show.{shown, map_row, vm_row, frame_row, frame_rows, row_of, in_frame, pages_in}
use Rattle.esx_model.specs.Readings.{is_hint, state_in, state_at, page_in, page_state}
use Rattle.esx_model.specs.sound.Sound.{IsSound}
use Rattle.esx_model.specs.sound.Machines.{IsPlace}
use Rattle.esx_model.proofs.Callers.{row_in_rows, IsIn, row_by, row_here, private_row, shared_row, page_is_in, old_place}
use Rattle.esx_story.specs.declared.change.Spot.{Spot}
use Rattle.esx_story.specs.declared.change.Spot.TheVariants as spots
use Rattle.esx_story.specs.Spots.{spot, spot_in, spot_of}
use Rattle.esx_passages.specs.Readings.{told_spot, epoch_in, epoch_of}
use Rattle.esx_passages.specs.Laws.{DoesPageTellSpot}

abbrev the_state : PageState → Result PageState Refusal
the_state p = Ok p

frame_told : (c : Config) (s : Site) (bytes : List ℕ) (f : ℕ) (shared : Bool) → IsSound c s → IsIn (all_places s) (places.Here bytes f shared) → f < c.frames → frame_at (frame_rows c.frames s) f ≡ row_of (in_frame f (all_places s))
frame_told c s bytes f shared sound i below =
    row_in_rows (frame_row s) c.frames f _ below ∙ row_by s f ∙ ap (λ b. cond b frames.Overhead (row_of (pages_in s f))) (row_here c.frames (all_places s) (all_overhead s) bytes f shared sound.frames i).1

private_spot : (epoch f : ℕ) (bytes : List ℕ) (hinted : Bool) (row : FrameRow) → row ≡ frames.Private bytes → spots.Here f false ≡ told_spot epoch (the_state (state_in hinted f row))
private_spot epoch f bytes true row is = sym (ap (λ (z : FrameRow). told_spot epoch (the_state (state_in true f z))) is)
private_spot epoch f bytes false row is = sym (ap (λ (z : FrameRow). told_spot epoch (the_state (state_in false f z))) is)

shared_spot : (epoch f : ℕ) (count : ℕ) (bytes : List ℕ) (hinted : Bool) (row : FrameRow) → row ≡ frames.Shared count bytes → spots.Here f true ≡ told_spot epoch (the_state (state_in hinted f row))
shared_spot epoch f count bytes hinted row is = sym (ap (λ (z : FrameRow). told_spot epoch (the_state (state_in hinted f z))) is)

equal : (a b : ℕ) (t : Bool) → (a == b) ≡ t → cond t (spots.Lent a) spots.Untouched ≡ cond t (spots.Lent b) spots.Untouched
equal a b true e = ap (λ k. spots.Lent k) (same a b e)
  where
    same : (a b : ℕ) → (a == b) ≡ true → a ≡ b
    same a b e = grind (arith, nat_tests)
equal a b false e = refl

lent_spot : (epoch d : ℕ) (t : Bool) (b : Book) (n page : ℕ) → (d == epoch) ≡ t → cond t (spots.Lent d) spots.Untouched ≡ told_spot epoch (the_state (state_at b n page (cond t (maps.Lent d) maps.Untouched)))
lent_spot epoch d true b n page e = equal d epoch true e
lent_spot epoch d false b n page e = refl

place_spotted : (c : Config) (t : Scene) (n page : ℕ) (v : Vm) (p : Place) → IsSound c t.site → IsIn (all_places t.site) p → IsPlace c v.epoch p → spot v.epoch p ≡ told_spot v.epoch (the_state (state_at (shown c t) n page (map_row v.epoch p)))
place_spotted c t n page v places.Untouched sound i place = refl
place_spotted c t n page v (places.Out bytes slot) sound i place = refl
place_spotted c t n page v (places.Lent d) sound i place = lent_spot v.epoch d (d == v.epoch) (shown c t) n page refl
place_spotted c t n page v (places.Here bytes f false) sound i place =
    private_spot v.epoch f bytes (is_hint (shown c t) n page) (frame_at (frame_rows c.frames t.site) f)
    (frame_told c t.site bytes f false sound i place.0 ∙ private_row c.frames (all_places t.site) (all_overhead t.site) bytes f sound.frames i)
place_spotted c t n page v (places.Here bytes f true) sound i place =
    let row = shared_row c.frames (all_places t.site) (all_overhead t.site) bytes f sound.frames i in
    shared_spot v.epoch f row.0 bytes (is_hint (shown c t) n page) (frame_at (frame_rows c.frames t.site) f) (frame_told c t.site bytes f true sound i place.0 ∙ row.1)

less : (max page : ℕ) → page < max → nat_le max page ≡ false
less max page h = grind (arith, nat_tests)

no_less : (max page : ℕ) → max ≤ page → nat_le max page ≡ true
no_less max page h = grind (arith, nat_tests)

-- what the tables say of a page of a machine that is there
page_said : (c : Config) (t : Scene) (n page : ℕ) (v : Vm) → vm_at t.site n ≡ Some v
    → page_state (shown c t) n page ≡ cond (nat_le v.spec.max page) (Err OutOfRange) (the_state (state_at (shown c t) n page (map_row v.epoch (place_at v page))))
unfolding page_state
page_said c t n page v there =
    let b = shown c t in
    ap (page_in b n page) (listn.get_or-map (option_map vm_row) t.site.vms n None ∙ ap (option_map vm_row) there)
    ∙ ap (λ row. let r : Result PageState Refusal = cond (nat_le v.spec.max page) (Err OutOfRange) (the_state (state_at b n page row)) in r) (listn.get_or-map (map_row v.epoch) v.places page places.Untouched)

nobody_said : (c : Config) (t : Scene) (n page : ℕ) → vm_at t.site n ≡ None → spots.Untouched ≡ told_spot 0 (page_state (shown c t) n page)
unfolding page_state
nobody_said c t n page none = sym (ap (λ o. told_spot 0 (page_in (shown c t) n page o)) (listn.get_or-map (option_map vm_row) t.site.vms n None ∙ ap (option_map vm_row) none))

vm_spotted : (c : Config) (t : Scene) (n page : ℕ) (v : Vm) → IsSound c t.site → vm_at t.site n ≡ Some v → spot v.epoch (place_at v page) ≡ told_spot v.epoch (page_state (shown c t) n page)
vm_spotted c t n page v sound there =
    let fine = sound.each n v there in
    let pages = fine.pages in
    let said = page_said c t n page v there in
    let P : Bool → Type 0 = λ b. page_state (shown c t) n page ≡ cond b (Err OutOfRange) (the_state (state_at (shown c t) n page (map_row v.epoch (place_at v page)))) in
    elim (cases_lt page v.spec.max) [
      | inl below ↦ (let within : page < length v.places = omega (arith, pages, below) in
          place_spotted c t n page v (place_at v page) sound (page_is_in t.site n page v there within) (old_place c v page fine within) ∙ sym (ap (told_spot v.epoch) (subst P (less v.spec.max page below) said)))
      | inr beyond ↦ ap (spot v.epoch) (get_or_past v.places page places.Untouched (omega (arith, pages, beyond))) ∙ sym (ap (told_spot v.epoch) (subst P (no_less v.spec.max page beyond) said))
    ]

pub page_spotted : DoesPageTellSpot
page_spotted c t n page sound = of (vm_at t.site n) refl
  where
    of : (o : Option Vm) → vm_at t.site n ≡ o → spot_of t.site n page ≡ told_spot (epoch_of t.site n) (page_state (shown c t) n page)
    of None e = ap (λ o. spot_in o page) e ∙ nobody_said c t n page e ∙ sym (ap (λ o. told_spot (epoch_in o) (page_state (shown c t) n page)) e)
    of (Some v) e = ap (λ o. spot_in o page) e ∙ vm_spotted c t n page v sound e ∙ sym (ap (λ o. told_spot (epoch_in o) (page_state (shown c t) n page)) e)
