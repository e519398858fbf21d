-- That a site stays sound where one machine changes: in its row alone, or in the place of one page.
use Rattle.std.proofs.Common.{◌≡◌, ◌≢◌, ℕ, ◌-◌, ◌≤◌, ◌<◌, false, List, length, get_or, set, sum_by, refl, sym, ap, ◌∙◌, subst, arith, Option, Some, None, ◌⊎◌, inl, inr}
use Rattle.std.specs.Option.{option_map}
use Rattle.std.proofs.lemmas.List.{get_or-set_same, get_or-set_other, length-set}
use Rattle.std.proofs.lemmas.List.Sums.{sum_by-set}
use Rattle.std.proofs.lemmas.Bool.{cases_eq}
use Rattle.std.proofs.lemmas.Bool.Decides.{nat_tests}
use Rattle.esx_types.specs.declared.config.Config.{Config}
use Rattle.esx_types.specs.declared.vm.VmState.TheVariants.{Starting}
use Rattle.esx_model.specs.declared.scene.Place.{Place}
use Rattle.esx_model.specs.declared.scene.Place.TheVariants.{Untouched}
use Rattle.esx_types.specs.declared.table.Hint.{Hint}
use Rattle.esx_model.specs.declared.scene.Vm.{Vm}
use Rattle.esx_model.specs.declared.scene.Site.{Site}
use Rattle.esx_model.specs.Site.{vm_at, with_vm, place_at, place_in, place_of, vm_places, vm_overhead, all_places, all_overhead, memory_reserve, swap_reserve, paged_out, lent}
use Rattle.esx_model.specs.Hints.{is_hint_of, with_place, hints_at, placed, with_change}
use Rattle.esx_model.specs.sound.Machines.{IsVm, IsPlace}
use Rattle.esx_model.specs.sound.Frames.{AreFrames}
use Rattle.esx_model.specs.sound.Hints.{AreHints}
use Rattle.esx_model.specs.sound.Sound.{IsSound}
use Rattle.esx_model.proofs.Lists.{Changed, changed_by_set, changed_inside, same_inside, some_below, set_again}
use Rattle.esx_model.proofs.FramesKept.{FitsIn, between, page_moves}
use Rattle.esx_model.proofs.HintsKept.{hints_placed, hints_stay}
use Rattle.esx_model.proofs.Rooms.{Room, IsIn, is_in_changed}
use Rattle.esx_model.proofs.Machines.{vm_placed}

-- the site with machine n another, and other hints
abbrev pub site_with : Site → ℕ → Vm → List Hint → Site
site_with s n w hints = record s { vms = set s.vms n (Some w); hints = hints }

-- the machine that stands at a number
pub vm_after : (s : Site) (n m : ℕ) (w x : Vm) (hints : List Hint) → n < length s.vms → vm_at (site_with s n w hints) m ≡ Some x → (x ≡ w) ⊎ (vm_at s m ≡ Some x)
vm_after s n m w x hints below h =
    elim (cases_eq m n) [
      | inl e ↦ (let there = ap (λ j. get_or (set s.vms n (Some w)) j None) e ∙ get_or-set_same s.vms n (Some w) None below in let same : Some x ≡ Some w = sym h ∙ there in inl cc)
      | inr other ↦ inr (sym (get_or-set_other s.vms n m (Some w) None other) ∙ h)
    ]

pub vm_changed : (s : Site) (n : ℕ) (o : Option Vm) (w : Vm) → n < length s.vms → vm_at s n ≡ o → Changed o (Some w) s.vms (set s.vms n (Some w))
vm_changed s n o w h e = let P : Option Vm → Type 0 = λ x. Changed x (Some w) s.vms (set s.vms n (Some w)) in subst P e (changed_by_set s.vms n (Some w) None h)

reserves_kept : (f : Option Vm → ℕ) (s : Site) (n : ℕ) (v w : Vm) → vm_at s n ≡ Some v → f (Some w) ≡ f (Some v) → sum_by f (set s.vms n (Some w)) ≡ sum_by f s.vms
reserves_kept f s n v w there same =
    let sums = sum_by-set f s.vms n (Some w) None (some_below s.vms n v there) in
    let here = ap f there in
    omega arith

-- a machine changes, and its reserves stay
pub record Becomes (c : Config) (v w : Vm) : Type 0 where
  pub fine : IsVm c w
  pub memory : memory_reserve (Some w) ≡ memory_reserve (Some v)
  pub swap : swap_reserve (Some w) ≡ swap_reserve (Some v)

pub conclude : (c : Config) (s : Site) (n : ℕ) (v w : Vm) (hints : List Hint) → IsSound c s → vm_at s n ≡ Some v → Becomes c v w
    → AreFrames c.frames (all_places (site_with s n w hints)) (all_overhead (site_with s n w hints)) → AreHints (place_of (site_with s n w hints)) hints → IsSound c (site_with s n w hints)
conclude c s n v w hints sound there becomes frames fine = record {
  vms = length-set s.vms n (Some w) ∙ sound.vms;
  each = λ m x h. elim (vm_after s n m w x hints (some_below s.vms n v there) h) [
    | inl e ↦ (let P : Vm → Type 0 = IsVm c in subst P (sym e) becomes.fine)
    | inr before ↦ sound.each m x before
  ];
  memory = (let kept = reserves_kept memory_reserve s n v w there becomes.memory in let old = sound.memory in omega arith);
  swap = (let kept = reserves_kept swap_reserve s n v w there becomes.swap in let old = sound.swap in omega arith);
  tau = sound.tau;
  frames = frames;
  hints = fine;
}

pub places_same : (s : Site) (n : ℕ) (v w : Vm) (hints : List Hint) → vm_at s n ≡ Some v → w.places ≡ v.places → all_places (site_with s n w hints) ≡ all_places s
unfolding all_places
places_same s n v w hints there same = same_inside vm_places (Some v) (Some w) s.vms (set s.vms n (Some w)) (vm_changed s n (Some v) w (some_below s.vms n v there) there) (sym same)

pub overhead_same : (s : Site) (n : ℕ) (v w : Vm) (hints : List Hint) → vm_at s n ≡ Some v → w.overhead ≡ v.overhead → all_overhead (site_with s n w hints) ≡ all_overhead s
unfolding all_overhead
overhead_same s n v w hints there same = same_inside vm_overhead (Some v) (Some w) s.vms (set s.vms n (Some w)) (vm_changed s n (Some v) w (some_below s.vms n v there) there) (sym same)

-- where the pages of a site are after machine n changed
pub place_changed : (s : Site) (n m k : ℕ) (v w : Vm) (hints : List Hint) → vm_at s n ≡ Some v → (m ≡ n → place_at w k ≡ place_at v k) → place_of (site_with s n w hints) m k ≡ place_of s m k
place_changed s n m k v w hints there same =
    elim (cases_eq m n) [
      | inl e ↦ ap (λ j. place_in (get_or (set s.vms n (Some w)) j None) k) e ∙ ap (λ o. place_in o k) (get_or-set_same s.vms n (Some w) None (some_below s.vms n v there))
          ∙ same e ∙ ap (λ o. place_in o k) (sym there) ∙ ap (λ j. place_of s j k) (sym e)
      | inr other ↦ ap (λ o. place_in o k) (get_or-set_other s.vms n m (Some w) None other)
    ]

-- A machine changes, and none of its pages and overhead frames.
pub row_only : (c : Config) (s : Site) (n : ℕ) (v w : Vm) → IsSound c s → vm_at s n ≡ Some v → Becomes c v w → w.places ≡ v.places → w.overhead ≡ v.overhead → IsSound c (with_vm s n w)
row_only c s n v w sound there becomes places overhead =
    let P : List Place → Type 0 = λ ps. AreFrames c.frames ps (all_overhead (site_with s n w s.hints)) in
    let Q : List ℕ → Type 0 = AreFrames c.frames (all_places s) in
    conclude c s n v w s.hints sound there becomes
    (subst P (sym (places_same s n v w s.hints there places)) (subst Q (sym (overhead_same s n v w s.hints there overhead)) sound.frames))
    (hints_stay (place_of s) (place_of (site_with s n w s.hints)) s.hints sound.hints
    (λ m k. place_changed s n m k v w s.hints there (λ e. ap (λ ps. get_or ps k Untouched) places)))

pub page_changed : (s : Site) (n page : ℕ) (v : Vm) (q : Place) (hints : List Hint) → vm_at s n ≡ Some v → page < length v.places
    → Changed (place_at v page) q (all_places s) (all_places (site_with s n (with_place page q v) hints))
unfolding all_places
page_changed s n page v q hints there within =
    changed_inside vm_places (Some v) (Some (with_place page q v)) s.vms (set s.vms n (Some (with_place page q v))) (place_at v page) q
    (vm_changed s n (Some v) (with_place page q v) (some_below s.vms n v there) there) (changed_by_set v.places page q Untouched within)

pub placed_is : (s : Site) (n page : ℕ) (v : Vm) (q : Place) → vm_at s n ≡ Some v → placed s n page q ≡ site_with s n (with_place page q v) (hints_at n page q s.hints)
unfolding placed
placed_is s n page v q there = ap (λ o. record s { vms = set s.vms n (option_map (with_place page q) o); hints = hints_at n page q s.hints }) there

other_page : (n page m k : ℕ) → is_hint_of n page (record { key = 0; vm = m; page = k }) ≡ false → m ≡ n → k ≢ page
other_page n page m k h e d = grind (arith, nat_tests)

-- what is known where a page of a machine goes to another place
pub record Goes (c : Config) (s : Site) (n page : ℕ) (v : Vm) (q : Place) : Type 0 where
  pub sound : IsSound c s
  pub there : vm_at s n ≡ Some v
  pub within : page < length v.places
  pub fine : IsVm c (with_place page q v)

abbrev pub way_of : (c : Config) (s : Site) (n page : ℕ) (v : Vm) (q : Place) → Goes c s n page v q → List Place
way_of c s n page v q g =
    between (place_at v page) q (all_places s) (all_places (site_with s n (with_place page q v) (hints_at n page q s.hints))) (page_changed s n page v q (hints_at n page q s.hints) g.there g.within)

-- A page goes from where it is to another place, where there is room for it once it left.
pub moved : (c : Config) (s : Site) (n page : ℕ) (v : Vm) (q : Place) (g : Goes c s n page v q)
    → (AreFrames c.frames (way_of c s n page v q g) (all_overhead s) → FitsIn (way_of c s n page v q g) (all_overhead s) q) → IsSound c (placed s n page q)
moved c s n page v q g fits =
    let hints = hints_at n page q s.hints in
    let w = with_place page q v in
    let t = site_with s n w hints in
    let P : Site → Type 0 = IsSound c in
    let Q : List ℕ → Type 0 = AreFrames c.frames (all_places t) in
    let frames : AreFrames c.frames (all_places t) (all_overhead s) =
    page_moves c.frames (all_places s) (all_places t) (all_overhead s) (place_at v page) q (page_changed s n page v q hints g.there g.within) g.sound.frames fits in
    let here : place_of t n page ≡ q =
    ap (λ o. place_in o page) (get_or-set_same s.vms n (Some w) None (some_below s.vms n v g.there)) ∙ get_or-set_same v.places page q Untouched g.within in
    subst P (sym (placed_is s n page v q g.there))
    (conclude c s n v w hints g.sound g.there (record { fine = g.fine; memory = refl; swap = refl })
    (subst Q (sym (overhead_same s n v w hints g.there refl)) frames)
    (hints_placed (place_of s) (place_of t) n page q s.hints g.sound.hints here
    (λ m k other. place_changed s n m k v w hints g.there (λ e. get_or-set_other v.places page k q Untouched (other_page n page m k other e)))))

-- the same, from what is known of the machine
pub placed_sound : (c : Config) (s : Site) (n page : ℕ) (v : Vm) (q : Place) → IsSound c s → vm_at s n ≡ Some v → page < v.spec.max → v.state ≢ Starting → IsPlace c v.epoch q
    → paged_out (with_place page q v) ≤ v.spec.max - v.spec.min → lent (with_place page q v) ≤ v.spec.balloon_max → Room c s (place_at v page) q → IsSound c (placed s n page q)
placed_sound c s n page v q sound there below past place out lends room =
    let fine = sound.each n v there in
    let within : page < length v.places = omega (arith, fine.pages) in
    let g : Goes c s n page v q = record { sound = sound; there = there; within = within; fine = vm_placed c v page q fine past place out lends } in
    moved c s n page v q g (λ mid. room (all_places s) (all_places (site_with s n (with_place page q v) (hints_at n page q s.hints))) (page_changed s n page v q (hints_at n page q s.hints) there within) refl mid)

-- the machine that changed
pub vm_there : (s : Site) (n : ℕ) (v w : Vm) → vm_at s n ≡ Some v → vm_at (with_vm s n w) n ≡ Some w
vm_there s n v w there = get_or-set_same s.vms n (Some w) None (some_below s.vms n v there)

pub with_change_is : (s : Site) (n : ℕ) (v : Vm) (change : Vm → Vm) → vm_at s n ≡ Some v → with_change s n change ≡ with_vm s n (change v)
with_change_is s n v change there = ap (λ o. record s { vms = set s.vms n (option_map change o) }) there

-- the page of a machine is among the pages of the site
pub page_is_in : (s : Site) (n page : ℕ) (v : Vm) → vm_at s n ≡ Some v → page < length v.places → IsIn (all_places s) (place_at v page)
page_is_in s n page v there within = is_in_changed (place_at v page) Untouched (all_places s) (all_places (site_with s n (with_place page Untouched v) s.hints)) (page_changed s n page v Untouched s.hints there within)

-- the machine after its page was placed
pub vm_placed_there : (s : Site) (n page : ℕ) (v : Vm) (q : Place) → vm_at s n ≡ Some v → vm_at (placed s n page q) n ≡ Some (with_place page q v)
vm_placed_there s n page v q there =
    ap (λ t. vm_at t n) (placed_is s n page v q there) ∙ get_or-set_same s.vms n (Some (with_place page q v)) None (some_below s.vms n v there)

-- all pages of the site around the one that was placed
pub placed_changed : (s : Site) (n page : ℕ) (v : Vm) (q : Place) → vm_at s n ≡ Some v → page < length v.places → Changed (place_at v page) q (all_places s) (all_places (placed s n page q))
placed_changed s n page v q there within =
    let P : Site → Type 0 = λ t. Changed (place_at v page) q (all_places s) (all_places t) in
    subst P (sym (placed_is s n page v q there)) (page_changed s n page v q (hints_at n page q s.hints) there within)

pub placed_overhead : (s : Site) (n page : ℕ) (v : Vm) (q : Place) → vm_at s n ≡ Some v → all_overhead (placed s n page q) ≡ all_overhead s
placed_overhead s n page v q there = ap all_overhead (placed_is s n page v q there) ∙ overhead_same s n v (with_place page q v) (hints_at n page q s.hints) there refl

-- the site with machine n at other places, and other hints
abbrev pub site_at : Site → ℕ → Vm → List Place → List Hint → Site
site_at s n v places hints = site_with s n (record v { places = places }) hints

pub placed_at : (s : Site) (n k : ℕ) (v : Vm) (places : List Place) (hints : List Hint) (q : Place) → vm_at s n ≡ Some v → placed (site_at s n v places hints) n k q ≡ site_at s n v (set places k q) (hints_at n k q hints)
placed_at s n k v places hints q there =
    let w : Vm = record v { places = places } in
    placed_is (site_at s n v places hints) n k w q (get_or-set_same s.vms n (Some w) None (some_below s.vms n v there))
    ∙ ap (λ (vms : List (Option Vm)). record s { vms = vms; hints = hints_at n k q hints }) (set_again s.vms n (Some w) (Some (with_place k q w)))
