-- A sound site has no more pages than all machines may have.
use Rattle.std.proofs.Common.{suc, ◌≡◌, true, subst, ℕ, ◌*◌, ◌^◌, ◌<◌, ◌≤◌, List, [], ◌∷◌, length, get_or, refl, sym, ap, ◌∙◌, arith, Option, Some, None, sum_by}
use Rattle.std.proofs.lemmas.List.Sums.{count_by-le-length, sum_by-cons}
use Rattle.esx_types.specs.declared.config.Config.{Config}
use Rattle.esx_types.specs.declared.config.TheConstants.{MAX_PAGES}
use Rattle.esx_model.specs.declared.scene.Vm.{Vm}
use Rattle.esx_model.specs.declared.scene.Site.{Site}
use Rattle.esx_model.specs.declared.look.Look.{Look}
use Rattle.esx_model.specs.Places.{is_here, is_here_at, contents}
use Rattle.esx_model.specs.Site.{vm_at, place_at, pages_at, pages_of}
use Rattle.esx_model.specs.event.Sharing.{look, after_look}
use Rattle.esx_model.specs.sound.Sound.{IsSound}
use Rattle.esx_model.proofs.Callers.{look_sound}

few_of : (f : ℕ) (o : Option Vm) → ((v : Vm) → o ≡ Some v → length v.places ≤ MAX_PAGES) → pages_of f o ≤ MAX_PAGES
few_of f None h = omega arith
few_of f (Some v) h = (let most = h v refl in let few = count_by-le-length (is_here_at f) v.places in omega arith)

few_in : (f : ℕ) (vms : List (Option Vm)) → ((n : ℕ) (v : Vm) → get_or vms n None ≡ Some v → length v.places ≤ MAX_PAGES) → sum_by (pages_of f) vms ≤ length vms * MAX_PAGES
few_in f [] h = omega arith
few_in f (o ∷ os) h =
    let one = few_of f o (h 0) in
    let rest = few_in f os (λ n v there. h (suc n) v there) in
    let total = sum_by-cons (pages_of f) o os in
    omega arith

few_of_sound : (c : Config) (s : Site) → IsSound c s → (n : ℕ) (v : Vm) → get_or s.vms n None ≡ Some v → length v.places ≤ MAX_PAGES
few_of_sound c s sound n v there = let fine = sound.each n v there in let most = fine.good.most_max in let all = fine.pages in omega arith

pub few_pages : (c : Config) (s : Site) (f : ℕ) → IsSound c s → pages_at f s < 2 ^ 32
unfolding pages_at
few_pages c s f sound =
    let few = few_in f s.vms (few_of_sound c s sound) in
    let numbers = sound.vms in
    omega arith

-- nor has the site after a look
pub few_after : (c : Config) (s t : Site) (n page : ℕ) (v : Vm) (bytes : List ℕ) (l : Look) → IsSound c s → vm_at s n ≡ Some v → page < v.spec.max → is_here (place_at v page) ≡ true
    → bytes ≡ contents c (place_at v page) → l ≡ look s n page (place_at v page) → t ≡ after_look s n page bytes l → (f : ℕ) → pages_at f t < 2 ^ 32
few_after c s t n page v bytes l sound there below here same_bytes same_look is f =
    let p = place_at v page in
    let P : Site → Type 0 = λ u. pages_at f u < 2 ^ 32 in
    let all : after_look s n page (contents c p) (look s n page p) ≡ t = sym (is ∙ ap (λ xs. after_look s n page xs l) same_bytes ∙ ap (after_look s n page (contents c p)) same_look) in
    subst P all (few_pages c (after_look s n page (contents c p) (look s n page p)) f (look_sound c s n page v p sound there below refl here))
