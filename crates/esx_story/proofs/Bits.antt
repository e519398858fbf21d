-- Which pages of each machine are in frames, after a machine of a site changed.
use Rattle.std.proofs.Common.{◌≡◌, ◌≢◌, ℕ, ◌<◌, Bool, true, false, List, [], ◌∷◌, length, get_or, set, map, refl, sym, ap, ◌∙◌, subst, arith, cond, Option, Some, None, inl, inr, ◌==◌, count_by}
use Rattle.std.proofs.lemmas.List.{set-get_or, get_or-set_same, get_or-set_other, map-set}
use Rattle.std.proofs.lemmas.List.Sums.{sum_by-cons}
use Rattle.std.proofs.Math.ListN as listn
use Rattle.std.proofs.lemmas.Bool.{cases_eq}
use Rattle.std.proofs.lemmas.Bool.Decides.{nat_tests}
use Rattle.esx_types.specs.declared.table.Hint.{Hint}
use Rattle.esx_model.specs.declared.scene.Place.{Place}
use Rattle.esx_model.specs.declared.scene.Place.TheVariants.{Untouched}
use Rattle.esx_model.specs.declared.scene.Vm.{Vm}
use Rattle.esx_model.specs.declared.scene.Site.{Site}
use Rattle.esx_model.specs.Places.{is_here}
use Rattle.esx_model.specs.Site.{vm_at, place_at, place_in}
use Rattle.esx_model.specs.Hints.{with_place, with_change, placed, hints_at}
use Rattle.esx_model.proofs.Callers.{one, some_below, site_with, with_change_is, placed_is}
use Rattle.esx_story.specs.Changes.{has_here, resident_in, resident_of}

pub named : (n m : ℕ) → m ≡ n → (n == m) ≡ true
named n m e = grind (arith, nat_tests)

pub not_named : (n m : ℕ) → m ≢ n → (n == m) ≡ false
not_named n m e = grind (arith, nat_tests)

pub equal : (a b : ℕ) → (a == b) ≡ true → a ≡ b
equal a b h = grind (arith, nat_tests)

-- for each page of a machine, whether it is in a frame
abbrev pub bits : Vm → List Bool
bits v = map is_here v.places

abbrev pub bits_in : Option Vm → List Bool
bits_in None = []
bits_in (Some v) = bits v

abbrev pub bits_at : Site → ℕ → List Bool
bits_at s n = bits_in (vm_at s n)

abbrev pub same : Bool → Bool
same b = b

abbrev pub trues : List Bool → ℕ
trues bs = count_by same bs

-- they are what is asked of a site
pub bit_in : (o : Option Vm) (page : ℕ) → get_or (bits_in o) page false ≡ is_here (place_in o page)
bit_in None page = refl
bit_in (Some v) page = listn.get_or-map is_here v.places page Untouched

pub bit_is : (s : Site) (n page : ℕ) → get_or (bits_at s n) page false ≡ has_here s n page
bit_is s n page = bit_in (vm_at s n) page

trues_map : (ps : List Place) → trues (map is_here ps) ≡ count_by is_here ps
trues_map [] = refl
trues_map (p ∷ ps) =
    let a = sum_by-cons (λ b. cond b 1 0) (is_here p) (map is_here ps) in
    let b = sum_by-cons (λ x. cond (is_here x) 1 0) p ps in
    let rest = trues_map ps in
    omega (arith, a, b, rest)

trues_in : (o : Option Vm) → trues (bits_in o) ≡ resident_in o
trues_in None = refl
trues_in (Some v) = trues_map v.places

pub trues_are : (s : Site) (n : ℕ) → trues (bits_at s n) ≡ resident_of s n
trues_are s n = trues_in (vm_at s n)

-- machine n of a site came to have these, and no other anything else
abbrev pub Has : Site → ℕ → List Bool → Site → Type 0
Has s n bs t = (m : ℕ) → bits_at t m ≡ cond (n == m) bs (bits_at s m)

-- all are as they were
abbrev pub Keeps : Site → Site → Type 0
Keeps s t = (m : ℕ) → bits_at t m ≡ bits_at s m

pub bits_there : (s : Site) (n : ℕ) (v : Vm) → vm_at s n ≡ Some v → bits_at s n ≡ bits v
bits_there s n v there = ap bits_in there

pub has_set : (s : Site) (n : ℕ) (o : Option Vm) (hints : List Hint) (tau : ℕ) → n < length s.vms → Has s n (bits_in o) (record { vms = set s.vms n o; hints = hints; tau = tau })
has_set s n o hints tau below m = elim (cases_eq m n) [
  | inl e ↦ ap (λ j. bits_in (get_or (set s.vms n o) j None)) e ∙ ap bits_in (get_or-set_same s.vms n o None below)
      ∙ ap (λ b. cond b (bits_in o) (bits_at s m)) (sym (named n m e))
  | inr other ↦ ap bits_in (get_or-set_other s.vms n m o None other) ∙ ap (λ b. cond b (bits_in o) (bits_at s m)) (sym (not_named n m other))
]

pub has_vm : (s : Site) (n : ℕ) (v w : Vm) (hints : List Hint) → vm_at s n ≡ Some v → Has s n (bits w) (site_with s n w hints)
has_vm s n v w hints there = has_set s n (Some w) hints s.tau (some_below s.vms n v there)

pub has_change : (s : Site) (n : ℕ) (v : Vm) (change : Vm → Vm) → vm_at s n ≡ Some v → Has s n (bits (change v)) (with_change s n change)
has_change s n v change there =
    let P : Site → Type 0 = Has s n (bits (change v)) in
    subst P (sym (with_change_is s n v change there)) (has_vm s n v (change v) s.hints there)

pub has_placed : (s : Site) (n page : ℕ) (v : Vm) (q : Place) → vm_at s n ≡ Some v → Has s n (set (bits v) page (is_here q)) (placed s n page q)
has_placed s n page v q there =
    let P : Site → Type 0 = Has s n (set (bits v) page (is_here q)) in
    let Q : List Bool → Type 0 = λ bs. Has s n bs (site_with s n (with_place page q v) (hints_at n page q s.hints)) in
    subst P (sym (placed_is s n page v q there)) (subst Q (map-set is_here v.places page q) (has_vm s n v (with_place page q v) (hints_at n page q s.hints) there))

twice : (b : Bool) (x y o : List Bool) → cond b y (cond b x o) ≡ cond b y o
twice true x y o = refl
twice false x y o = refl

pub has_again : (s t u : Site) (n : ℕ) (x y : List Bool) → Has s n x t → Has t n y u → Has s n y u
has_again s t u n x y one two m = two m ∙ ap (cond (n == m) y) (one m) ∙ twice (n == m) x y (bits_at s m)

pub keeps_again : (s t u : Site) → Keeps s t → Keeps t u → Keeps s u
keeps_again s t u one two m = two m ∙ one m

-- a machine that comes to have what it has
pub keeps_of : (s t : Site) (n : ℕ) (v : Vm) (bs : List Bool) → vm_at s n ≡ Some v → Has s n bs t → bs ≡ bits v → Keeps s t
keeps_of s t n v bs there has is m = has m ∙ elim (cases_eq m n) [
  | inl e ↦ ap (λ b. cond b bs (bits_at s m)) (named n m e) ∙ is ∙ sym (bits_there s n v there) ∙ ap (bits_at s) (sym e)
  | inr other ↦ ap (λ b. cond b bs (bits_at s m)) (not_named n m other)
]

-- a page that is here comes to a place here, or one that is not to one that is not
pub set_same : (v : Vm) (page : ℕ) (b : Bool) → is_here (place_at v page) ≡ b → set (bits v) page b ≡ bits v
set_same v page b e = ap (set (bits v) page) (sym e ∙ sym (bit_in (Some v) page)) ∙ set-get_or (bits v) page false

pub keeps_placed : (s : Site) (n page : ℕ) (v : Vm) (q : Place) → vm_at s n ≡ Some v → is_here (place_at v page) ≡ is_here q → Keeps s (placed s n page q)
keeps_placed s n page v q there e = keeps_of s (placed s n page q) n v (set (bits v) page (is_here q)) there (has_placed s n page v q there) (set_same v page (is_here q) e)
