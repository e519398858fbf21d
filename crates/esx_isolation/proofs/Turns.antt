-- Memories after a machine of a site changed, and after nothing changed that its guest knows.
use Rattle.std.proofs.Common.{◌≡◌, ℕ, ◌<◌, Bool, true, false, ◌||◌, List, [], ◌∷◌, length, get_or, set, map, ◌++◌, refl, sym, ap, ◌∙◌, subst, cond, Option, Some, None, inl, inr, ◌==◌, nat_lt}
use Rattle.std.specs.Option.{option_map}
use Rattle.std.proofs.lemmas.List.{get_or-set_same, get_or-set_other, map-set}
use Rattle.std.proofs.Math.Seq.{map-set_same}
use Rattle.std.proofs.Math.ListN as listn
use Rattle.std.proofs.lemmas.Bool.{cases_eq}
use Rattle.esx_types.specs.declared.config.Config.{Config}
use Rattle.esx_types.specs.declared.table.Hint.{Hint}
use Rattle.esx_formulas.specs.declared.activity.Period.{Period}
use Rattle.esx_formulas.specs.Average.{so_far}
use Rattle.esx_model.specs.declared.scene.Place.{Place}
use Rattle.esx_model.specs.declared.scene.Place.TheVariants.{Untouched, Here, Out, Lent}
use Rattle.esx_model.specs.declared.scene.Vm.{Vm}
use Rattle.esx_model.specs.declared.scene.Site.{Site}
use Rattle.esx_model.specs.Places.{contents, is_here, is_lent_in}
use Rattle.esx_model.specs.Site.{vm_at, place_at}
use Rattle.esx_model.specs.Hints.{with_place, with_change, placed, hints_at}
use Rattle.esx_model.specs.event.Balloon.{is_lent, popped}
use Rattle.esx_model.specs.event.Sampling.{counted_in, counted}
use Rattle.esx_model.specs.event.Access.{after_access}
use Rattle.esx_model.proofs.Callers.{eqb_same, eqb_other, some_below, site_with, with_change_is, vm_there, placed_is, vm_placed_there}
use Rattle.esx_model.specs.Memory.{Cell, Memory, lent_since, cell_of, memory_of, memory_at, cell_at, is_since, is_lent_now, come}

pub named : (n m : ℕ) → m ≡ n → (n == m) ≡ true
named n m e = ap (λ k. n == k) e ∙ eqb_same n

-- the memory of machine n of a site became this, and no other's anything
abbrev pub Has : Config → Site → ℕ → Option Memory → Site → Type 0
Has c s n o t = (m : ℕ) → memory_at c t m ≡ cond (n == m) o (memory_at c s m)

-- all memories are as they were
abbrev pub Keeps : Config → Site → Site → Type 0
Keeps c s t = (m : ℕ) → memory_at c t m ≡ memory_at c s m

-- what an event does to machine n
abbrev pub Turns : Config → Site → ℕ → (Option Memory → Option Memory) → Site → Type 0
Turns c s n f t = (m : ℕ) → memory_at c t m ≡ cond (n == m) (f (memory_at c s m)) (memory_at c s m)

pub memory_there : (c : Config) (s : Site) (n : ℕ) (v : Vm) → vm_at s n ≡ Some v → memory_at c s n ≡ Some (memory_of c v)
memory_there c s n v there = ap (option_map (memory_of c)) there

pub has_set : (c : Config) (s : Site) (n : ℕ) (o : Option Vm) (hints : List Hint) (tau : ℕ) → n < length s.vms → Has c s n (option_map (memory_of c) o) (record { vms = set s.vms n o; hints = hints; tau = tau })
has_set c s n o hints tau below m = elim (cases_eq m n) [
  | inl e ↦ ap (λ j. option_map (memory_of c) (get_or (set s.vms n o) j None)) e ∙ ap (option_map (memory_of c)) (get_or-set_same s.vms n o None below)
      ∙ ap (λ b. cond b (option_map (memory_of c) o) (memory_at c s m)) (sym (named n m e))
  | inr other ↦ ap (option_map (memory_of c)) (get_or-set_other s.vms n m o None other) ∙ ap (λ b. cond b (option_map (memory_of c) o) (memory_at c s m)) (sym (eqb_other n m other))
]

pub has_vm : (c : Config) (s : Site) (n : ℕ) (v w : Vm) (hints : List Hint) → vm_at s n ≡ Some v → Has c s n (Some (memory_of c w)) (site_with s n w hints)
has_vm c s n v w hints there = has_set c s n (Some w) hints s.tau (some_below s.vms n v there)

pub has_change : (c : Config) (s : Site) (n : ℕ) (v : Vm) (change : Vm → Vm) → vm_at s n ≡ Some v → Has c s n (Some (memory_of c (change v))) (with_change s n change)
has_change c s n v change there =
    let P : Site → Type 0 = Has c s n (Some (memory_of c (change v))) in
    subst P (sym (with_change_is s n v change there)) (has_vm c s n v (change v) s.hints there)

pub has_placed : (c : Config) (s : Site) (n page : ℕ) (v : Vm) (q : Place) → vm_at s n ≡ Some v → Has c s n (Some (memory_of c (with_place page q v))) (placed s n page q)
has_placed c s n page v q there =
    let P : Site → Type 0 = Has c s n (Some (memory_of c (with_place page q v))) in
    subst P (sym (placed_is s n page v q there)) (has_vm c s n v (with_place page q v) (hints_at n page q s.hints) there)

-- a machine has the memory that it had
pub has_itself : (c : Config) (s : Site) (n : ℕ) (v : Vm) → vm_at s n ≡ Some v → Has c s n (Some (memory_of c v)) s
has_itself c s n v there m = elim (cases_eq m n) [
  | inl e ↦ ap (memory_at c s) e ∙ memory_there c s n v there ∙ ap (λ b. cond b (Some (memory_of c v)) (memory_at c s m)) (sym (named n m e))
  | inr other ↦ ap (λ b. cond b (Some (memory_of c v)) (memory_at c s m)) (sym (eqb_other n m other))
]

twice : (b : Bool) (x y o : Option Memory) → cond b y (cond b x o) ≡ cond b y o
twice true x y o = refl
twice false x y o = refl

pub has_again : (c : Config) (s t u : Site) (n : ℕ) (x y : Option Memory) → Has c s n x t → Has c t n y u → Has c s n y u
has_again c s t u n x y one two m = two m ∙ ap (cond (n == m) y) (one m) ∙ twice (n == m) x y (memory_at c s m)

pub keeps_again : (c : Config) (s t u : Site) → Keeps c s t → Keeps c t u → Keeps c s u
keeps_again c s t u one two m = two m ∙ one m

-- what became of the memory of machine n is what the event does to it
pub turns_by : (c : Config) (s t : Site) (n : ℕ) (v : Vm) (o : Option Memory) (f : Option Memory → Option Memory) → vm_at s n ≡ Some v → Has c s n o t → o ≡ f (Some (memory_of c v)) → Turns c s n f t
turns_by c s t n v o f there has is m = has m ∙ elim (cases_eq m n) [
  | inl e ↦ ap (λ x. cond (n == m) x (memory_at c s m)) (is ∙ ap f (sym (memory_there c s n v there)) ∙ ap (λ j. f (memory_at c s j)) (sym e))
  | inr other ↦ ap (λ b. cond b o (memory_at c s m)) (eqb_other n m other) ∙ ap (λ b. cond b (f (memory_at c s m)) (memory_at c s m)) (sym (eqb_other n m other))
]

same_both : (b : Bool) (o : Option Memory) → cond b o o ≡ o
same_both true o = refl
same_both false o = refl

-- an event that leaves each memory turns none
pub turns_none : (c : Config) (s t : Site) (n : ℕ) → Keeps c s t → Turns c s n (λ o. o) t
turns_none c s t n keeps m = keeps m ∙ sym (same_both (n == m) (memory_at c s m))

pub keeps_of : (c : Config) (s t : Site) (n : ℕ) (v : Vm) (o : Option Memory) → vm_at s n ≡ Some v → Has c s n o t → o ≡ Some (memory_of c v) → Keeps c s t
keeps_of c s t n v o there has is m = turns_by c s t n v o (λ x. x) there has is m ∙ same_both (n == m) (memory_at c s m)

-- a page at another place, where it is the same to its guest
pub keeps_placed : (c : Config) (s : Site) (n page : ℕ) (v : Vm) (q : Place) → vm_at s n ≡ Some v → cell_of c q ≡ cell_of c (place_at v page) → Keeps c s (placed s n page q)
keeps_placed c s n page v q there same =
    keeps_of c s (placed s n page q) n v (Some (memory_of c (with_place page q v))) there (has_placed c s n page v q there)
    (ap (λ cells. Some (record (memory_of c v) { pages = cells })) (map-set_same (cell_of c) v.places page q Untouched same))

-- a machine's page
pub cell_is : (c : Config) (v : Vm) (page : ℕ) → cell_at c (memory_of c v) page ≡ cell_of c (place_at v page)
cell_is c v page = listn.get_or-map (cell_of c) v.places page Untouched

since_is : (e : ℕ) (p : Place) → is_since e (lent_since p) ≡ is_lent_in e p
since_is e Untouched = refl
since_is e (Here bytes frame shared) = refl
since_is e (Out bytes slot) = refl
since_is e (Lent d) = refl

pub lent_is : (c : Config) (v : Vm) (page : ℕ) → is_lent_now c (memory_of c v) page ≡ is_lent v page
lent_is c v page = ap (λ (x : Cell). is_since v.epoch x.lent) (cell_is c v page) ∙ since_is v.epoch (place_at v page)

pub bytes_are : (c : Config) (v : Vm) (page : ℕ) → (cell_at c (memory_of c v) page).bytes ≡ contents c (place_at v page)
bytes_are c v page = ap (λ (x : Cell). x.bytes) (cell_is c v page)

-- a page in a frame is not lent
pub here_cell : (c : Config) (p : Place) (f : ℕ) (shared : Bool) → is_here p ≡ true → cell_of c (Here (contents c p) f shared) ≡ cell_of c p
here_cell c Untouched f shared h = cc
here_cell c (Here bytes g s) f shared h = refl
here_cell c (Out bytes i) f shared h = cc
here_cell c (Lent e) f shared h = cc

pub out_cell : (c : Config) (p : Place) (i : ℕ) → is_here p ≡ true → cell_of c (Out (contents c p) i) ≡ cell_of c p
out_cell c Untouched i h = cc
out_cell c (Here bytes g s) i h = refl
out_cell c (Out bytes j) i h = cc
out_cell c (Lent e) i h = cc

-- the count of an access is no matter of its guest's memory
either_memory : (c : Config) (v a b : Vm) (t : Bool) → memory_of c a ≡ memory_of c v → memory_of c b ≡ memory_of c v → memory_of c (cond t a b) ≡ memory_of c v
either_memory c v a b true e d = e
either_memory c v a b false e d = d

counted_in_memory : (c : Config) (page : ℕ) (v : Vm) (o : Option Period) → memory_of c (counted_in page v o) ≡ memory_of c v
counted_in_memory c page v None = refl
counted_in_memory c page v (Some p) =
    let q : Period = record p { accessed = p.accessed ++ page ∷ [] } in
    either_memory c v (record v { period = Some q }) (record v { period = None; closed = v.closed ++ so_far q ∷ [] }) (nat_lt (length q.accessed) q.length) refl refl

pub counted_memory : (c : Config) (page : ℕ) (v : Vm) → memory_of c (counted page v) ≡ memory_of c v
counted_memory c page v = counted_in_memory c page v v.period

-- the machine after a page of it comes
pub come_is : (c : Config) (page : ℕ) (v : Vm) (bytes : List ℕ) (f : ℕ) (shared : Bool) → memory_of c (with_place page (Here bytes f shared) (popped page v)) ≡ come c page bytes (memory_of c v)
come_is c page v bytes f shared =
    ap (λ cells. record (memory_of c (popped page v)) { pages = cells }) (map-set (cell_of c) v.places page (Here bytes f shared))
    ∙ ap (λ b. record (memory_of c v) { due = v.due || b; pages = set (map (cell_of c) v.places) page (record { bytes = bytes; lent = None }) }) (sym (lent_is c v page))

-- and the site after an access
pub has_access : (c : Config) (s : Site) (n page : ℕ) (v : Vm) (bytes : List ℕ) (f : ℕ) (shared : Bool) → vm_at s n ≡ Some v
    → Has c s n (Some (come c page bytes (memory_of c v))) (after_access s n page (Here bytes f shared))
has_access c s n page v bytes f shared there =
    let q : Place = Here bytes f shared in
    let v1 = popped page v in
    let s1 = with_change s n (popped page) in
    let there1 : vm_at s1 n ≡ Some v1 = ap (λ t. vm_at t n) (with_change_is s n v (popped page) there) ∙ vm_there s n v v1 there in
    let v2 = with_place page q v1 in
    let s2 = placed s1 n page q in
    let there2 = vm_placed_there s1 n page v1 q there1 in
    let s3 = with_change s2 n (counted page) in
    let two = has_again c s s1 s2 n (Some (memory_of c v1)) (Some (memory_of c v2)) (has_change c s n v (popped page) there) (has_placed c s1 n page v1 q there1) in
    let three = has_again c s s2 s3 n (Some (memory_of c v2)) (Some (memory_of c (counted page v2))) two (has_change c s2 n v2 (counted page) there2) in
    let P : Memory → Type 0 = λ x. Has c s n (Some x) s3 in
    subst P (counted_memory c page v2 ∙ come_is c page v bytes f shared) three
