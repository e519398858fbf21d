-- The rows of frames and slots, by the first page in each.
use Rattle.std.proofs.Common.{suc, ◌≡◌, ℕ, ◌+◌, ◌*◌, ◌≤◌, true, false, List, [], ◌∷◌, length, get_or, refl, sym, ap, ◌∙◌, arith, cond, ◌==◌, Option, Some, None, sum_by}
use Rattle.std.specs.List.{filter, find, list_any, count_by}
use Rattle.std.proofs.lemmas.List.Sums.{length-filter, count_by-le-length, sum_by-cons}
use Rattle.std.proofs.lemmas.List.Concat.{length-flat_map}
use Rattle.esx_types.specs.declared.config.Config.{Config}
use Rattle.esx_types.specs.declared.config.TheConstants.{MAX_PAGES, VM_NUMBERS}
use Rattle.esx_types.specs.declared.table.FrameRow.TheVariants as frame_is
use Rattle.esx_model.specs.declared.scene.Place.{Place}
use Rattle.esx_model.specs.declared.scene.Place.TheVariants.{Untouched, Here, Out, Lent}
use Rattle.esx_model.specs.declared.scene.Vm.{Vm}
use Rattle.esx_model.specs.declared.scene.Site.{Site}
use Rattle.esx_model.specs.Places.{is_here_at, is_out_at}
use Rattle.esx_model.specs.Site.{pages_at, pages_of, all_places, all_overhead, vm_places, vm_overhead}
use Rattle.esx_model.specs.Show.{frame_row, row_of, slot_of, slot_row}
use Rattle.esx_plain.specs.Shown.{first_row, first_slot}
use Rattle.esx_model.specs.sound.Sound.{IsSound}
use Rattle.esx_plain.proofs.Lists.{BeginsWith, any_inside, filter_some, filter_none, count_inside, sum_by_same}

pages_counted : (f : ℕ) (o : Option Vm) → count_by (is_here_at f) (vm_places o) ≡ pages_of f o
pages_counted f None = refl
pages_counted f (Some v) = refl

pub count_places : (f : ℕ) (s : Site) → count_by (is_here_at f) (all_places s) ≡ pages_at f s
unfolding all_places pages_at
count_places f s = count_inside (is_here_at f) vm_places s.vms ∙ sum_by_same (λ o. count_by (is_here_at f) (vm_places o)) (pages_of f) s.vms (pages_counted f)

pub pages_few : (f : ℕ) (s : Site) → pages_at f s ≤ length (all_places s)
pages_few f s = let same = count_places f s in let few = count_by-le-length (is_here_at f) (all_places s) in omega arith

shared_row : (bytes : List ℕ) (frame : ℕ) (ps : List Place) (n : ℕ) → BeginsWith ps (Here bytes frame true) → length ps ≡ n → row_of ps ≡ frame_is.Shared n bytes
shared_row bytes frame ps n k len =
    let all : length ps ≡ length (Here bytes frame true ∷ k.rest) = ap length k.is in
    let one : length (Here bytes frame true ∷ k.rest) ≡ 1 + length k.rest = omega arith in
    ap row_of k.is ∙ ap (λ count. frame_is.Shared count bytes) (sym one ∙ sym all ∙ len)

row_found : (f : ℕ) (ps : List Place) (o : Option Place) → find (is_here_at f) ps ≡ o → row_of (filter (is_here_at f) ps) ≡ first_row o (count_by (is_here_at f) ps)
row_found f ps None e = ap row_of (filter_none (is_here_at f) ps e)
row_found f ps (Some (Here bytes frame true)) e =
    shared_row bytes frame (filter (is_here_at f) ps) (count_by (is_here_at f) ps) (filter_some (is_here_at f) ps (Here bytes frame true) e) (length-filter (is_here_at f) ps)
row_found f ps (Some (Here bytes frame false)) e = ap row_of (filter_some (is_here_at f) ps (Here bytes frame false) e).is
row_found f ps (Some Untouched) e = ap row_of (filter_some (is_here_at f) ps Untouched e).is
row_found f ps (Some (Out bytes slot)) e = ap row_of (filter_some (is_here_at f) ps (Out bytes slot) e).is
row_found f ps (Some (Lent epoch)) e = ap row_of (filter_some (is_here_at f) ps (Lent epoch) e).is

-- the row of a frame, by the first page in it
pub frame_row_found : (s : Site) (f : ℕ)
    → frame_row s f ≡ cond (list_any (λ o. list_any (λ g. g == f) (vm_overhead o)) s.vms) frame_is.Overhead (first_row (find (is_here_at f) (all_places s)) (pages_at f s))
unfolding frame_row all_overhead
frame_row_found s f =
    ap (λ b. cond b frame_is.Overhead (row_of (filter (is_here_at f) (all_places s)))) (any_inside (λ g. g == f) vm_overhead s.vms)
    ∙ ap (cond (list_any (λ o. list_any (λ g. g == f) (vm_overhead o)) s.vms) frame_is.Overhead)
    (row_found f (all_places s) (find (is_here_at f) (all_places s)) refl ∙ ap (first_row (find (is_here_at f) (all_places s))) (count_places f s))

slot_found : (i : ℕ) (ps : List Place) (o : Option Place) → find (is_out_at i) ps ≡ o → slot_of (filter (is_out_at i) ps) ≡ first_slot o
slot_found i ps None e = ap slot_of (filter_none (is_out_at i) ps e)
slot_found i ps (Some (Here bytes frame shared)) e = ap slot_of (filter_some (is_out_at i) ps (Here bytes frame shared) e).is
slot_found i ps (Some Untouched) e = ap slot_of (filter_some (is_out_at i) ps Untouched e).is
slot_found i ps (Some (Out bytes slot)) e = ap slot_of (filter_some (is_out_at i) ps (Out bytes slot) e).is
slot_found i ps (Some (Lent epoch)) e = ap slot_of (filter_some (is_out_at i) ps (Lent epoch) e).is

-- the row of a slot, by the first page in it
pub slot_row_found : (s : Site) (i : ℕ) → slot_row s i ≡ first_slot (find (is_out_at i) (all_places s))
unfolding slot_row
slot_row_found s i = slot_found i (all_places s) (find (is_out_at i) (all_places s)) refl

-- A sound site has no more pages than all machines may have.

few_of : (o : Option Vm) → ((v : Vm) → o ≡ Some v → length v.places ≤ MAX_PAGES) → length (vm_places o) ≤ MAX_PAGES
few_of None h = omega arith
few_of (Some v) h = h v refl

few_places : (vms : List (Option Vm)) → ((n : ℕ) (v : Vm) → get_or vms n None ≡ Some v → length v.places ≤ MAX_PAGES) → sum_by (λ o. length (vm_places o)) vms ≤ length vms * MAX_PAGES
few_places [] h = omega arith
few_places (o ∷ os) h =
    let one = few_of o (h 0) in
    let rest = few_places os (λ n v there. h (suc n) v there) in
    let total = sum_by-cons (λ o. length (vm_places o)) o os in
    omega arith

few_of_sound : (c : Config) (s : Site) → IsSound c s → (n : ℕ) (v : Vm) → get_or s.vms n None ≡ Some v → length v.places ≤ MAX_PAGES
few_of_sound c s sound n v there = let fine = sound.each n v there in let most = fine.good.most_max in let all = fine.pages in omega arith

pub places_few : (c : Config) (s : Site) → IsSound c s → length (all_places s) ≤ VM_NUMBERS * MAX_PAGES
unfolding all_places
places_few c s sound =
    let total = length-flat_map vm_places s.vms in
    let few = few_places s.vms (few_of_sound c s sound) in
    let numbers = sound.vms in
    omega arith
