-- A plan refines an event part by part: the same machine is needed, the same gate is passed, the same frame or slot is found, and the changes make what the event makes.
use Rattle.std.proofs.Common.{zero, suc, ◌≡◌, ℕ, Bool, true, false, List, [], ◌∷◌, get_or, map, refl, sym, ap, ◌∙◌, subst, cond, Option, Some, None, Ok}
use Rattle.std.specs.Option.{option_map}
use Rattle.esx_types.specs.declared.config.Config.{Config}
use Rattle.esx_types.specs.declared.table.MapRow.TheVariants as maps
use Rattle.esx_types.specs.Pages as rows
use Rattle.esx_events.specs.declared.event.Answer.{Answer}
use Rattle.esx_events.specs.declared.event.Refusal.{Refusal}
use Rattle.esx_model.specs.declared.scene.Place.{Place}
use Rattle.esx_model.specs.declared.scene.Place.TheVariants.{Untouched, Here, Out, Lent}
use Rattle.esx_model.specs.declared.scene.Vm.{Vm}
use Rattle.esx_model.specs.declared.scene.Site.{Site}
use Rattle.esx_model.specs.declared.book.VmRow.{VmRow}
use Rattle.esx_model.specs.declared.tables.Tables.{Tables}
use Rattle.esx_model.specs.Places.{is_here, is_out, is_lent_in}
use Rattle.esx_model.specs.Site.{vm_at, place_at}
use Rattle.esx_model.specs.Tables.{raw_place, vm_table, standing_of, tables_of}
use Rattle.esx_model.specs.event.Outcome.{Outcome, Gate, at_vm, unless, first, or_else, Passes, standing}
use Rattle.esx_model.proofs.Callers.{counts_same}
use Rattle.esx_tables.specs.declared.change.Change.{Change}
use Rattle.esx_tables.specs.Changes.{exchanged}
use Rattle.esx_tables.specs.Readings.{row_at}
use Rattle.esx_changes.specs.Planned.{Planned, at_row}
use Rattle.esx_refinement.specs.Refinement.{Refines}

-- The row of a machine, and of its page.

pub row_there : (c : Config) (s : Site) (n : ℕ) → row_at (tables_of c s) n ≡ option_map vm_table (vm_at s n)
row_there c s n = of s.vms n
  where
    of : (vms : List (Option Vm)) (n : ℕ) → get_or (map (option_map vm_table) vms) n None ≡ option_map vm_table (get_or vms n None)
    of [] n = refl
    of (o ∷ os) zero = refl
    of (o ∷ os) (suc n) = of os n

pub row_is : (c : Config) (s : Site) (n : ℕ) (v : Vm) → vm_at s n ≡ Some v → row_at (tables_of c s) n ≡ Some (vm_table v)
row_is c s n v there = row_there c s n ∙ ap (option_map vm_table) there

pub page_row : (v : Vm) (page : ℕ) → rows.page_at (vm_table v).pages page ≡ raw_place (place_at v page)
page_row v page = of v.places page
  where
    of : (ps : List Place) (i : ℕ) → get_or (map raw_place ps) i maps.Untouched ≡ raw_place (get_or ps i Untouched)
    of [] i = refl
    of (p ∷ ps) zero = refl
    of (p ∷ ps) (suc i) = of ps i

-- What gates read.

same_here : (x : Place) → rows.is_here (raw_place x) ≡ is_here x
same_here Untouched = refl
same_here (Here bytes frame shared) = refl
same_here (Out bytes slot) = refl
same_here (Lent epoch) = refl

same_out : (x : Place) → rows.is_out (raw_place x) ≡ is_out x
same_out Untouched = refl
same_out (Here bytes frame shared) = refl
same_out (Out bytes slot) = refl
same_out (Lent epoch) = refl

same_lent : (e : ℕ) (x : Place) → rows.is_lent_in e (raw_place x) ≡ is_lent_in e x
same_lent e Untouched = refl
same_lent e (Here bytes frame shared) = refl
same_lent e (Out bytes slot) = refl
same_lent e (Lent epoch) = refl

pub standing_shown : (v : Vm) → standing_of (vm_table v) ≡ standing v
standing_shown v =
    ap (λ (n : ℕ). record (standing_of (vm_table v)) { resident = n }) (counts_same rows.is_here is_here raw_place same_here v.places)
    ∙ ap (λ (n : ℕ). record (standing v) { out = n; lent = (standing_of (vm_table v)).lent }) (counts_same rows.is_out is_out raw_place same_out v.places)
    ∙ ap (λ (n : ℕ). record (standing v) { lent = n }) (counts_same (rows.is_lent_in v.epoch) (is_lent_in v.epoch) raw_place (same_lent v.epoch) v.places)

-- Parts.

pub needs_vm : (c : Config) (s : Site) (n : ℕ) (go : VmRow → Planned) (k : Vm → Outcome) → ((v : Vm) → vm_at s n ≡ Some v → Refines c s (go (vm_table v)) (k v))
    → Refines c s (at_row (row_at (tables_of c s) n) go) (at_vm (vm_at s n) k)
needs_vm c s n go k h =
    let P : Option VmRow → Type 0 = λ o. Refines c s (at_row o go) (at_vm (vm_at s n) k) in
    subst P (sym (row_there c s n)) (of (vm_at s n) refl)
  where
    of : (o : Option Vm) → vm_at s n ≡ o → Refines c s (at_row (option_map vm_table o) go) (at_vm o k)
    of None e = refl
    of (Some v) e = h v e

gate_passes : (g : Gate) → first g ≡ None → Passes g
gate_passes [] h = tt
gate_passes (t ∷ ts) h = of t.0 refl h (λ e. gate_passes ts e)
  where
    of : (b : Bool) → t.0 ≡ b → cond b (Some t.1) (first ts) ≡ None → (first ts ≡ None → Passes ts) → (t.0 ≡ false) × Passes ts
    of true e k go = cc
    of false e k go = (e, go k)

pub passes_gate : (c : Config) (s : Site) (g : Gate) (p : Planned) (o : Outcome) → (Passes g → Refines c s p o) → Refines c s (unless g p) (unless g o)
passes_gate c s g p o h = of (first g) refl
  where
    of : (e : Option Refusal) → first g ≡ e → Refines c s (or_else e p) (or_else e o)
    of (Some e) is = refl
    of None is = h (gate_passes g is)

-- a gate over what a row tells is the gate over what the machine tells
pub passes_same : (c : Config) (s : Site) (f g : Gate) (p : Planned) (o : Outcome) → f ≡ g → (Passes g → Refines c s p o) → Refines c s (unless f p) (unless g o)
passes_same c s f g p o same h =
    let P : Gate → Type 0 = λ x. Refines c s (unless x p) (unless g o) in
    subst P (sym same) (passes_gate c s g p o h)

-- the same frame or slot is found
pub found_same : {A : Type 0} (c : Config) (s : Site) (x y : Option A) (go : Option A → Planned) (k : Option A → Outcome) → x ≡ y → ((o : Option A) → y ≡ o → Refines c s (go o) (k o)) → Refines c s (go x) (k y)
found_same {A = A} c s x y go k same h =
    let P : Option A → Type 0 = λ o. Refines c s (go o) (k y) in
    subst P (sym same) (h y refl)

pub makes_shown : (c : Config) (s : Site) (a : Answer) (cs : List Change) (t : Site) (b : Tables) → (exchanged (tables_of c s) cs).0 ≡ b → tables_of c t ≡ b → Refines c s (Ok (a, cs)) (Ok (a, t))
makes_shown c s a cs t b made shown = (refl, made ∙ sym shown)
