-- What the tables say of a page tells whether it is in a shared frame.
use Rattle.std.proofs.Common.{◌≡◌, ℕ, ◌<◌, ◌≤◌, Bool, true, false, nat_le, ◌==◌, List, length, map, refl, sym, ap, ◌∙◌, arith, cond, inl, inr, Option, Some, None, Result, Ok, Err}
use Rattle.std.specs.Option.{option_map}
use Rattle.std.proofs.Math.ListN as listn
use Rattle.std.proofs.lemmas.Bool.{cases_lt}
use Rattle.std.proofs.lemmas.Bool.Decides.{nat_tests}
use Rattle.std.proofs.lemmas.List.{get_or_past}
use Rattle.esx_types.specs.declared.config.Config.{Config}
use Rattle.esx_types.specs.declared.table.FrameRow.{FrameRow}
use Rattle.esx_types.specs.declared.table.FrameRow.TheVariants as frames
use Rattle.esx_types.specs.declared.table.MapRow.TheVariants as maps
use Rattle.esx_types.specs.Frames.{frame_at}
use Rattle.esx_types.specs.Pages.{page_at}
use Rattle.esx_events.specs.declared.event.Refusal.{Refusal}
use Rattle.esx_events.specs.declared.event.Refusal.TheVariants.{OutOfRange}
use Rattle.esx_events.specs.declared.call.PageState.{PageState}
use Rattle.esx_events.specs.declared.call.PageState.TheVariants as states
use Rattle.esx_model.specs.declared.book.Book.{Book}
use Rattle.esx_model.specs.declared.scene.Place.{Place}
use Rattle.esx_model.specs.declared.scene.Place.TheVariants as places
use Rattle.esx_model.specs.declared.scene.Vm.{Vm}
use Rattle.esx_model.specs.declared.scene.Site.{Site}
use Rattle.esx_model.specs.declared.scene.Scene.{Scene}
use Rattle.esx_model.specs.Places.{is_shared}
use Rattle.esx_model.specs.Site.{vm_at, place_at, place_in, all_places, all_overhead}
use Rattle.esx_model.specs.Show.{shown, map_row, vm_row, frame_row, frame_rows, row_of, in_frame, pages_in}
use Rattle.esx_model.specs.Readings.{is_hint, state_in, state_at, page_in, page_state}
use Rattle.esx_model.specs.sound.Sound.{IsSound}
use Rattle.esx_model.specs.sound.Machines.{IsPlace}
use Rattle.esx_model.proofs.Callers.{row_in_rows, IsIn, row_by, row_here, private_row, shared_row, page_is_in, old_place}
use Rattle.esx_figures.specs.Sharing.{is_told_shared}
use Rattle.esx_figures.specs.Laws.{IsSharedTold}

abbrev the_state : PageState → Result PageState Refusal
the_state p = Ok p

abbrev is_shared_row : FrameRow → Bool
is_shared_row (frames.Shared count bytes) = true
is_shared_row _ = false

hinted_tells : (f : ℕ) (hinted : Bool) → is_told_shared (the_state (cond hinted (states.Hinted f) (states.Private f))) ≡ false
hinted_tells f true = refl
hinted_tells f false = refl

row_tells : (f : ℕ) (hinted : Bool) (row : FrameRow) → is_told_shared (the_state (state_in hinted f row)) ≡ is_shared_row row
row_tells f hinted frames.Free = refl
row_tells f hinted frames.Overhead = refl
row_tells f hinted (frames.Private b) = hinted_tells f hinted
row_tells f hinted (frames.Shared count b) = refl

page_row : (c : Config) (s : Site) (bytes : List ℕ) (f : ℕ) (shared : Bool) → IsSound c s → IsIn (all_places s) (places.Here bytes f shared) → is_shared_row (row_of (in_frame f (all_places s))) ≡ shared
page_row c s bytes f true sound i = ap is_shared_row (shared_row c.frames (all_places s) (all_overhead s) bytes f sound.frames i).1
page_row c s bytes f false sound i = ap is_shared_row (private_row c.frames (all_places s) (all_overhead s) bytes f sound.frames i)

frame_tells : (c : Config) (s : Site) (bytes : List ℕ) (f : ℕ) (shared : Bool) → IsSound c s → IsIn (all_places s) (places.Here bytes f shared) → f < c.frames → is_shared_row (frame_at (frame_rows c.frames s) f) ≡ shared
frame_tells c s bytes f shared sound i below =
    let listed = (row_here c.frames (all_places s) (all_overhead s) bytes f shared sound.frames i).1 in
    ap is_shared_row (row_in_rows (frame_row s) c.frames f _ below ∙ row_by s f ∙ ap (λ b. cond b frames.Overhead (row_of (pages_in s f))) listed) ∙ page_row c s bytes f shared sound i

lent_tells : (d : ℕ) (b : Bool) (book : Book) (n page : ℕ) → false ≡ is_told_shared (the_state (state_at book n page (cond b (maps.Lent d) maps.Untouched)))
lent_tells d true book n page = refl
lent_tells d false book n page = refl

state_tells : (c : Config) (t : Scene) (n page : ℕ) (v : Vm) (p : Place) → IsSound c t.site → IsIn (all_places t.site) p → IsPlace c v.epoch p → is_shared p ≡ is_told_shared (the_state (state_at (shown c t) n page (map_row v.epoch p)))
state_tells c t n page v places.Untouched sound i place = refl
state_tells c t n page v (places.Out bytes slot) sound i place = refl
state_tells c t n page v (places.Lent d) sound i place = lent_tells d (d == v.epoch) (shown c t) n page
state_tells c t n page v (places.Here bytes f shared) sound i place =
    sym (row_tells f (is_hint (shown c t) n page) (frame_at (frame_rows c.frames t.site) f) ∙ frame_tells c t.site bytes f shared sound i place.0)

in_range : (max page : ℕ) → page < max → nat_le max page ≡ false
in_range max page h = grind (arith, nat_tests)

past_range : (max page : ℕ) → max ≤ page → nat_le max page ≡ true
past_range max page h = grind (arith, nat_tests)

abbrev page_by : Config → Scene → ℕ → ℕ → Vm → Bool → Result PageState Refusal
page_by c t n page v past = cond past (Err OutOfRange) (Ok (state_at (shown c t) n page (page_at (map (map_row v.epoch) v.places) page)))

page_said : (c : Config) (t : Scene) (n page : ℕ) (v : Vm) → vm_at t.site n ≡ Some v → page_state (shown c t) n page ≡ page_by c t n page v (nat_le v.spec.max page)
unfolding page_state
page_said c t n page v there = ap (page_in (shown c t) n page) (listn.get_or-map (option_map vm_row) t.site.vms n None ∙ ap (option_map vm_row) there)

nobody_said : (c : Config) (t : Scene) (n page : ℕ) → vm_at t.site n ≡ None → false ≡ is_told_shared (page_state (shown c t) n page)
unfolding page_state
nobody_said c t n page none = sym (ap (λ o. is_told_shared (page_in (shown c t) n page o)) (listn.get_or-map (option_map vm_row) t.site.vms n None ∙ ap (option_map vm_row) none))

machine_tells : (c : Config) (t : Scene) (n page : ℕ) (v : Vm) → IsSound c t.site → vm_at t.site n ≡ Some v → is_shared (place_at v page) ≡ is_told_shared (page_state (shown c t) n page)
machine_tells c t n page v sound there =
    let fine = sound.each n v there in
    let pages = fine.pages in
    let said = page_said c t n page v there in
    elim (cases_lt page v.spec.max) [
      | inl below ↦ (let within : page < length v.places = omega (arith, pages, below) in
          let tells = state_tells c t n page v (place_at v page) sound (page_is_in t.site n page v there within) (old_place c v page fine within) in
          tells ∙ sym (ap is_told_shared (said ∙ ap (page_by c t n page v) (in_range v.spec.max page below) ∙ ap (λ row. the_state (state_at (shown c t) n page row)) (listn.get_or-map (map_row v.epoch) v.places page places.Untouched))))
      | inr past ↦ (let beyond : length v.places ≤ page = omega (arith, pages, past) in
          ap is_shared (get_or_past v.places page places.Untouched beyond) ∙ sym (ap is_told_shared (said ∙ ap (page_by c t n page v) (past_range v.spec.max page past))))
    ]

tells_of : (c : Config) (t : Scene) (n page : ℕ) (o : Option Vm) → IsSound c t.site → vm_at t.site n ≡ o → is_shared (place_in o page) ≡ is_told_shared (page_state (shown c t) n page)
tells_of c t n page None sound is = nobody_said c t n page is
tells_of c t n page (Some v) sound is = machine_tells c t n page v sound is

pub shared_told : IsSharedTold
shared_told c t n page sound = tells_of c t n page (vm_at t.site n) sound refl
