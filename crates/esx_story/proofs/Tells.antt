-- What the tables say of a page tells how it comes.
use Rattle.std.proofs.Common.{◌≡◌, ℕ, ◌<◌, Bool, true, false, nat_le, ◌==◌, List, length, map, refl, sym, ap, ◌∙◌, arith, cond, Some, None, Result, Ok, Err}
use Rattle.std.specs.Option.{option_map}
use Rattle.std.proofs.Math.ListN as listn
use Rattle.std.proofs.lemmas.Bool.Decides.{nat_tests}
use Rattle.esx_types.specs.declared.config.Config.{Config}
use Rattle.esx_types.specs.declared.table.FrameRow.{FrameRow}
use Rattle.esx_types.specs.declared.table.FrameRow.TheVariants as frames
use Rattle.esx_types.specs.declared.table.MapRow.TheVariants as maps
use Rattle.esx_types.specs.Frames.{frame_at, holds_bytes}
use Rattle.esx_types.specs.Pages.{page_at}
use Rattle.esx_events.specs.declared.event.Refusal.{Refusal}
use Rattle.esx_events.specs.declared.event.Refusal.TheVariants.{OutOfRange}
use Rattle.esx_events.specs.declared.call.PageState.{PageState}
use Rattle.esx_events.specs.declared.call.PageState.TheVariants as states
use Rattle.esx_model.specs.declared.book.Book.{Book}
use Rattle.esx_model.specs.declared.scene.Place.{Place}
use Rattle.esx_model.specs.declared.scene.Place.TheVariants as places
use Rattle.esx_model.specs.declared.scene.Vm.{Vm}
use Rattle.esx_model.specs.declared.scene.Site.{Site}
use Rattle.esx_model.specs.declared.scene.Scene.{Scene}
use Rattle.esx_model.specs.Places.{is_here}
use Rattle.esx_model.specs.Site.{vm_at, place_at, place_in, all_places, all_overhead}
use Rattle.esx_model.specs.Show.{shown, map_row, vm_row, frame_row, frame_rows, row_of, in_frame, pages_in}
use Rattle.esx_model.specs.Readings.{is_hint, state_in, state_at, page_in, page_state}
use Rattle.esx_model.specs.sound.Sound.{IsSound}
use Rattle.esx_model.specs.sound.Machines.{IsPlace}
use Rattle.esx_model.proofs.Callers.{row_in_rows, IsIn, row_by, row_here, private_row, shared_row, page_is_in, old_place}
use Rattle.esx_story.specs.Changes.{First, Pop}
use Rattle.esx_story.specs.Gains.{coming}
use Rattle.esx_story.specs.Readings.{coming_from, is_told_here, DoesPageTell}

abbrev the_state : PageState → Result PageState Refusal
the_state p = Ok p

-- both readings of a state
abbrev Tells : ℕ → Place → Result PageState Refusal → Type 0
Tells epoch p r = (coming epoch p ≡ coming_from r) × (is_here p ≡ is_told_here r)

hinted_tells : (epoch : ℕ) (bytes : List ℕ) (f : ℕ) (shared hinted : Bool) → Tells epoch (places.Here bytes f shared) (the_state (cond hinted (states.Hinted f) (states.Private f)))
hinted_tells epoch bytes f shared true = (refl, refl)
hinted_tells epoch bytes f shared false = (refl, refl)

row_tells : (epoch : ℕ) (bytes : List ℕ) (f : ℕ) (shared hinted : Bool) (row : FrameRow) → holds_bytes row ≡ true → Tells epoch (places.Here bytes f shared) (the_state (state_in hinted f row))
row_tells epoch bytes f shared hinted frames.Free h = cc
row_tells epoch bytes f shared hinted frames.Overhead h = cc
row_tells epoch bytes f shared hinted (frames.Private b) h = hinted_tells epoch bytes f shared hinted
row_tells epoch bytes f shared hinted (frames.Shared count b) h = (refl, refl)

page_holds : (c : Config) (s : Site) (bytes : List ℕ) (f : ℕ) (shared : Bool) → IsSound c s → IsIn (all_places s) (places.Here bytes f shared) → holds_bytes (row_of (in_frame f (all_places s))) ≡ true
page_holds c s bytes f true sound i = ap holds_bytes (shared_row c.frames (all_places s) (all_overhead s) bytes f sound.frames i).1
page_holds c s bytes f false sound i = ap holds_bytes (private_row c.frames (all_places s) (all_overhead s) bytes f sound.frames i)

frame_holds : (c : Config) (s : Site) (bytes : List ℕ) (f : ℕ) (shared : Bool) → IsSound c s → IsIn (all_places s) (places.Here bytes f shared) → f < c.frames → holds_bytes (frame_at (frame_rows c.frames s) f) ≡ true
frame_holds c s bytes f shared sound i below =
    let listed = (row_here c.frames (all_places s) (all_overhead s) bytes f shared sound.frames i).1 in
    ap holds_bytes (row_in_rows (frame_row s) c.frames f _ below ∙ row_by s f ∙ ap (λ b. cond b frames.Overhead (row_of (pages_in s f))) listed) ∙ page_holds c s bytes f shared sound i

lent_tells : (epoch d : ℕ) (b : Bool) (book : Book) (n page : ℕ) → (d == epoch) ≡ b → Tells epoch (places.Lent d) (the_state (state_at book n page (cond b (maps.Lent d) maps.Untouched)))
lent_tells epoch d true book n page e = (ap (λ b. Some (cond b Pop First)) e, refl)
lent_tells epoch d false book n page e = (ap (λ b. Some (cond b Pop First)) e, refl)

state_tells : (c : Config) (t : Scene) (n page : ℕ) (v : Vm) (p : Place) → IsSound c t.site → IsIn (all_places t.site) p → IsPlace c v.epoch p → Tells v.epoch p (the_state (state_at (shown c t) n page (map_row v.epoch p)))
state_tells c t n page v places.Untouched sound i place = (refl, refl)
state_tells c t n page v (places.Out bytes slot) sound i place = (refl, refl)
state_tells c t n page v (places.Lent d) sound i place = lent_tells v.epoch d (d == v.epoch) (shown c t) n page refl
state_tells c t n page v (places.Here bytes f shared) sound i place =
    row_tells v.epoch bytes f shared (is_hint (shown c t) n page) (frame_at (frame_rows c.frames t.site) f) (frame_holds c t.site bytes f shared sound i place.0)

in_range : (max page : ℕ) → page < max → nat_le max page ≡ false
in_range max page h = grind (arith, nat_tests)

page_said : (c : Config) (t : Scene) (n page : ℕ) (v : Vm) → vm_at t.site n ≡ Some v → page < v.spec.max → page_state (shown c t) n page ≡ the_state (state_at (shown c t) n page (map_row v.epoch (place_at v page)))
unfolding page_state
page_said c t n page v there below =
    let b = shown c t in
    ap (page_in b n page) (listn.get_or-map (option_map vm_row) t.site.vms n None ∙ ap (option_map vm_row) there)
    ∙ ap (λ (x : Bool). let r : Result PageState Refusal = cond x (Err OutOfRange) (Ok (state_at b n page (page_at (map (map_row v.epoch) v.places) page))) in r) (in_range v.spec.max page below)
    ∙ ap (λ row. the_state (state_at b n page row)) (listn.get_or-map (map_row v.epoch) v.places page places.Untouched)

pub page_tells : DoesPageTell
page_tells c t n page v sound there below =
    let fine = sound.each n v there in
    let within : page < length v.places = (let pages = fine.pages in omega (arith, pages, below)) in
    let tells = state_tells c t n page v (place_at v page) sound (page_is_in t.site n page v there within) (old_place c v page fine within) in
    let said = page_said c t n page v there below in
    (tells.0 ∙ sym (ap coming_from said), ap (λ o. is_here (place_in o page)) there ∙ tells.1 ∙ sym (ap is_told_here said))
