-- What the tables tell is what the site tells: the page that a word draws, the least free slot, what is free, and who has more than their least.
use Rattle.std.proofs.Common.{zero, suc, ◌==◌, ◌≡◌, ℕ, ◌+◌, ◌%◌, Bool, true, false, ◌||◌, not, List, [], ◌∷◌, get_or, set, map, slice_get, refl, sym, ap, ◌∙◌, cond, Option, Some, None}
use Rattle.std.specs.Option.{option_map}
use Rattle.std.specs.List.{list_any, flat_map}
use Rattle.std.proofs.lemmas.List.Folds.{list_any-append}
use Rattle.esx_types.specs.declared.config.Config.{Config}
use Rattle.esx_types.specs.Slots.{is_empty, least_slot}
use Rattle.esx_types.specs.Pages as rows
use Rattle.esx_frames.specs.Counts.{counts_of}
use Rattle.esx_model.specs.declared.scene.Place.{Place}
use Rattle.esx_model.specs.declared.scene.Place.TheVariants.{Untouched, Here, Out, Lent}
use Rattle.esx_model.specs.declared.scene.Vm.{Vm}
use Rattle.esx_model.specs.declared.scene.Site.{Site}
use Rattle.esx_model.specs.Places.{is_here, is_out_at}
use Rattle.esx_model.specs.Site.{is_held, vm_holds, vm_places, all_places, here_from, free_count}
use Rattle.esx_model.specs.Site.{least_slot as least_empty}
use Rattle.esx_model.specs.Show.{slot_row, in_slot, slot_of}
use Rattle.esx_model.specs.Tables.{raw_place, vm_table, tables_of}
use Rattle.esx_model.specs.event.Paging.{has_more, is_above_min, victim}
use Rattle.esx_model.proofs.Callers.{counts_same, free_rows}
use Rattle.esx_changes.specs.Drawn.{drawn_page}
use Rattle.esx_changes.specs.Spare.{has_spare}
use Rattle.esx_refinement.proofs.Found.{found_from}
use Rattle.esx_refinement.proofs.Refining.{standing_shown}

-- The drawn page.

pub here_shown : (x : Place) → rows.is_here (raw_place x) ≡ is_here x
here_shown Untouched = refl
here_shown (Here bytes frame shared) = refl
here_shown (Out bytes slot) = refl
here_shown (Lent epoch) = refl

pages_shown : (i : ℕ) (ps : List Place) → rows.resident_from i (map raw_place ps) ≡ here_from i ps
pages_shown i [] = refl
pages_shown i (p ∷ ps) =
    ap (λ (b : Bool). cond b (i ∷ rows.resident_from (i + 1) (map raw_place ps)) (rows.resident_from (i + 1) (map raw_place ps))) (here_shown p)
    ∙ ap (λ (xs : List ℕ). cond (is_here p) (i ∷ xs) xs) (pages_shown (i + 1) ps)

pub drawn_found : (v : Vm) (word : ℕ) → drawn_page (vm_table v) word ≡ victim v word
drawn_found v word =
    ap (λ (xs : List ℕ). slice_get xs (word % rows.resident_count (map raw_place v.places))) (pages_shown 0 v.places)
    ∙ ap (λ (k : ℕ). slice_get (here_from 0 v.places) (word % k)) (counts_same rows.is_here is_here raw_place here_shown v.places)

-- The least slot that no page is in.

slot_empty : (i : ℕ) (ps : List Place) → is_empty (slot_of (in_slot i ps)) ≡ not (list_any (is_out_at i) ps)
slot_empty i [] = refl
slot_empty i (Untouched ∷ ps) = slot_empty i ps
slot_empty i (Here bytes f shared ∷ ps) = slot_empty i ps
slot_empty i (Lent e ∷ ps) = slot_empty i ps
slot_empty i (Out bytes k ∷ ps) = out_one i bytes k ps (slot_empty i ps) (k == i)
  where
    out_one : (i : ℕ) (bytes : List ℕ) (k : ℕ) (ps : List Place) → is_empty (slot_of (in_slot i ps)) ≡ not (list_any (is_out_at i) ps) → (b : Bool)
        → is_empty (slot_of (cond b (Out bytes k ∷ in_slot i ps) (in_slot i ps))) ≡ not (b || list_any (is_out_at i) ps)
    out_one i bytes k ps rest true = refl
    out_one i bytes k ps rest false = rest

held_one : (i : ℕ) (o : Option Vm) → vm_holds i o ≡ list_any (is_out_at i) (vm_places o)
held_one i None = refl
held_one i (Some v) = refl

held_parts : (i : ℕ) (vms : List (Option Vm)) → list_any (vm_holds i) vms ≡ list_any (is_out_at i) (flat_map vm_places vms)
held_parts i [] = refl
held_parts i (o ∷ os) =
    ap (λ (b : Bool). b || list_any (vm_holds i) os) (held_one i o)
    ∙ ap (λ (b : Bool). list_any (is_out_at i) (vm_places o) || b) (held_parts i os)
    ∙ sym (list_any-append (is_out_at i) (vm_places o) (flat_map vm_places os))

empty_row : (s : Site) (i : ℕ) → is_empty (slot_row s i) ≡ not (is_held s i)
unfolding slot_row all_places
empty_row s i = slot_empty i (all_places s) ∙ ap not (sym (held_parts i s.vms))

pub slot_found : (c : Config) (s : Site) → least_slot (tables_of c s).slots ≡ least_empty c.slots s
unfolding least_empty
slot_found c s = found_from is_empty (λ i. not (is_held s i)) (slot_row s) (empty_row s) 0 c.slots

-- What is free.

pub free_shown : (c : Config) (s : Site) → (counts_of (tables_of c s).frames).free ≡ free_count c.frames s
free_shown c s = free_rows s c.frames

-- Who has more than their least.

spare_one : (o : Option Vm) → has_spare (option_map vm_table o) ≡ is_above_min o
spare_one None = refl
spare_one (Some v) = ap has_more (standing_shown v)

pub spare_shown : (vms : List (Option Vm)) → list_any has_spare (map (option_map vm_table) vms) ≡ list_any is_above_min vms
spare_shown [] = refl
spare_shown (o ∷ os) =
    ap (λ (b : Bool). b || list_any has_spare (map (option_map vm_table) os)) (spare_one o)
    ∙ ap (λ (b : Bool). is_above_min o || b) (spare_shown os)

-- a machine that changes and has as much more as before
pub any_same : {X : Type 0} (p : X → Bool) (xs : List X) (n : ℕ) (y d : X) → p y ≡ p (get_or xs n d) → list_any p (set xs n y) ≡ list_any p xs
any_same p [] n y d same = refl
any_same p (x ∷ xs) zero y d same = ap (λ (b : Bool). b || list_any p xs) same
any_same p (x ∷ xs) (suc n) y d same = ap (λ (b : Bool). p x || b) (any_same p xs n y d same)
