-- How many pages of each machine are in shared frames, after a machine of a site changed.
use Rattle.std.proofs.Common.{◌≡◌, ◌≢◌, ℕ, ◌+◌, ◌<◌, Bool, true, false, List, length, get_or, set, refl, sym, ap, ◌∙◌, subst, arith, cond, Option, Some, None, inl, inr, ◌==◌, count_by}
use Rattle.std.proofs.lemmas.List.{get_or-set_same, get_or-set_other}
use Rattle.std.proofs.lemmas.Bool.{cases_eq}
use Rattle.esx_types.specs.declared.table.Hint.{Hint}
use Rattle.esx_model.specs.declared.scene.Place.{Place}
use Rattle.esx_model.specs.declared.scene.Vm.{Vm}
use Rattle.esx_model.specs.declared.scene.Site.{Site}
use Rattle.esx_model.specs.Places.{is_shared}
use Rattle.esx_model.specs.Site.{vm_at, place_at, place_in}
use Rattle.esx_model.specs.Hints.{with_place, with_change, placed, hints_at}
use Rattle.esx_model.proofs.Callers.{one, some_below, site_with, with_change_is, placed_is, count_placed}
use Rattle.esx_story.proofs.Bits.{named, not_named}
use Rattle.esx_figures.specs.Figures.{shared_pages}
use Rattle.esx_figures.specs.Sharing.{shared_in, shared_of, has_shared, one_of}

-- machine n, if it is so
abbrev pub mark : ℕ → Bool → Option ℕ
mark n b = cond b (Some n) None

-- as many as before
abbrev pub Same : Site → Site → Type 0
Same s t = (m : ℕ) → shared_of t m ≡ shared_of s m

-- a page of machine n was in a shared frame or not, and is in one or not
abbrev pub Put : Site → Site → ℕ → Bool → Bool → Type 0
Put s t n a b = (m : ℕ) → shared_of t m + one_of m (mark n a) ≡ shared_of s m + one_of m (mark n b)

-- a page parted, one joined, and one is a host
abbrev pub Shares : Site → Site → Option ℕ → Option ℕ → Option ℕ → Type 0
Shares s t l j h = (m : ℕ) → shared_of t m + one_of m l ≡ shared_of s m + one_of m j + one_of m h

mark_own : (n m : ℕ) (b : Bool) → m ≡ n → one_of m (mark n b) ≡ one b
mark_own n m true e = ap one (named n m e)
mark_own n m false e = refl

mark_other : (n m : ℕ) (b : Bool) → m ≢ n → one_of m (mark n b) ≡ 0
mark_other n m true other = ap one (not_named n m other)
mark_other n m false other = refl

pub shares_same : (s t : Site) → Same s t → Shares s t None None None
shares_same s t same m = (let is = same m in omega (arith, is))

pub shares_parted : (s t : Site) (n : ℕ) (a : Bool) → Put s t n a false → Shares s t (mark n a) None None
shares_parted s t n a put m = (let is = put m in omega (arith, is))

pub same_put : (s t : Site) (n : ℕ) (a b : Bool) → a ≡ b → Put s t n a b → Same s t
same_put s t n a b e put m =
    let is = put m in
    let same : one_of m (mark n a) ≡ one_of m (mark n b) = ap (λ x. one_of m (mark n x)) e in
    omega (arith, is, same)

pub put_between : (s t u w : Site) (n : ℕ) (a b : Bool) → Same s t → Put t u n a b → Same u w → Put s w n a b
put_between s t u w n a b one_ put two m =
    let x = one_ m in
    let y = put m in
    let z = two m in
    omega (arith, x, y, z)

pub same_again : (s t u : Site) → Same s t → Same t u → Same s u
same_again s t u one_ two m = two m ∙ one_ m

-- one of the machines changed
pub shared_set : (s : Site) (n : ℕ) (o : Option Vm) (hints : List Hint) (tau : ℕ) → n < length s.vms
    → (m : ℕ) → shared_of (record { vms = set s.vms n o; hints = hints; tau = tau }) m ≡ cond (n == m) (shared_in o) (shared_of s m)
shared_set s n o hints tau below m = elim (cases_eq m n) [
  | inl e ↦ ap (λ j. shared_in (get_or (set s.vms n o) j None)) e ∙ ap shared_in (get_or-set_same s.vms n o None below)
      ∙ ap (λ b. cond b (shared_in o) (shared_of s m)) (sym (named n m e))
  | inr other ↦ ap shared_in (get_or-set_other s.vms n m o None other) ∙ ap (λ b. cond b (shared_in o) (shared_of s m)) (sym (not_named n m other))
]

-- to one that has as many
pub same_set : (s : Site) (n : ℕ) (o : Option Vm) (hints : List Hint) (tau : ℕ) → n < length s.vms → shared_in o ≡ shared_of s n → Same s (record { vms = set s.vms n o; hints = hints; tau = tau })
same_set s n o hints tau below as_many m = shared_set s n o hints tau below m ∙ elim (cases_eq m n) [
  | inl e ↦ ap (λ b. cond b (shared_in o) (shared_of s m)) (named n m e) ∙ as_many ∙ ap (shared_of s) (sym e)
  | inr other ↦ ap (λ b. cond b (shared_in o) (shared_of s m)) (not_named n m other)
]

pub same_vm : (s : Site) (n : ℕ) (v w : Vm) (hints : List Hint) → vm_at s n ≡ Some v → w.places ≡ v.places → Same s (site_with s n w hints)
same_vm s n v w hints there is = same_set s n (Some w) hints s.tau (some_below s.vms n v there) (ap (count_by is_shared) is ∙ sym (ap shared_in there))

pub same_change : (s : Site) (n : ℕ) (v : Vm) (change : Vm → Vm) → vm_at s n ≡ Some v → (change v).places ≡ v.places → Same s (with_change s n change)
same_change s n v change there is = subst (Same s) (sym (with_change_is s n v change there)) (same_vm s n v (change v) s.hints there is)

-- a page came to another place
pub put_placed : (s : Site) (n page : ℕ) (v : Vm) (q : Place) → vm_at s n ≡ Some v → page < length v.places → Put s (placed s n page q) n (has_shared s n page) (is_shared q)
put_placed s n page v q there within =
    let w = with_place page q v in
    let t = site_with s n w (hints_at n page q s.hints) in
    let P : Site → Type 0 = λ x. Put s x n (has_shared s n page) (is_shared q) in
    subst P (sym (placed_is s n page v q there)) (λ m. at m w (hints_at n page q s.hints))
  where
    at : (m : ℕ) (w : Vm) (hints : List Hint) → shared_of (site_with s n (with_place page q v) hints) m + one_of m (mark n (has_shared s n page)) ≡ shared_of s m + one_of m (mark n (is_shared q))
    at m w hints =
        let after = shared_set s n (Some (with_place page q v)) hints s.tau (some_below s.vms n v there) m in
        elim (cases_eq m n) [
          | inl e ↦ (let new : shared_of (site_with s n (with_place page q v) hints) m ≡ shared_pages (with_place page q v) = after ∙ ap (λ b. cond b (shared_pages (with_place page q v)) (shared_of s m)) (named n m e) in
              let old : shared_of s m ≡ shared_pages v = ap (shared_of s) e ∙ ap shared_in there in
              let counts = count_placed is_shared v page q within in
              let was : one_of m (mark n (has_shared s n page)) ≡ one (is_shared (place_at v page)) = mark_own n m (has_shared s n page) e ∙ ap (λ o. one (is_shared (place_in o page))) there in
              let is = mark_own n m (is_shared q) e in
              omega (arith, new, old, counts, was, is))
          | inr other ↦ (let new : shared_of (site_with s n (with_place page q v) hints) m ≡ shared_of s m = after ∙ ap (λ b. cond b (shared_pages (with_place page q v)) (shared_of s m)) (not_named n m other) in
              let was = mark_other n m (has_shared s n page) other in
              let is = mark_other n m (is_shared q) other in
              omega (arith, new, was, is))
        ]
