-- Targets, shares and the tax keep a site sound.
use Rattle.std.proofs.Common.{zero, suc, ◌≡◌, ℕ, ◌++◌, length, map, get_or, sum_by, min, slice_index, ◌+◌, ◌≤◌, ◌<◌, true, false, ◌&&◌, nat_le, nat_lt, List, [], ◌∷◌, refl, sym, ap, ◌∙◌, subst, arith, Option, Some, None, Ok}
use Rattle.std.specs.Option.{option_map}
use Rattle.std.specs.List.{flat_map}
use Rattle.std.proofs.lemmas.Bool.Decides.{nat_tests}
use Rattle.std.proofs.lemmas.List.Sums.{sum_by-cons}
use Rattle.esx_types.specs.declared.config.Config.{Config}
use Rattle.esx_types.specs.declared.config.TheConstants.{MAX_SHARES, MAX_TAU}
use Rattle.esx_types.specs.declared.vm.VmSpec.{VmSpec}
use Rattle.esx_types.specs.Ranges.{IsGood}
use Rattle.esx_events.specs.declared.event.Answer.{Answer}
use Rattle.esx_events.specs.declared.event.Answer.TheVariants as answers
use Rattle.esx_types.specs.declared.level.Level.{Level}
use Rattle.esx_types.specs.declared.level.Level.TheVariants.{High, Soft, Hard, Low}
use Rattle.esx_formulas.specs.Ratio.{row_at}
use Rattle.esx_formulas.specs.Targets.{held, spare, targets_of}
use Rattle.esx_formulas.proofs.Revoking.{worked_out}
use Rattle.esx_model.specs.declared.scene.Place.{Place}
use Rattle.esx_model.specs.declared.scene.Vm.{Vm}
use Rattle.esx_model.specs.declared.scene.Site.{Site}
use Rattle.esx_model.specs.Site.{vm_at, with_vm, place_in, place_of, vm_places, vm_overhead, all_places, all_overhead, memory_reserve, swap_reserve}
use Rattle.esx_model.specs.event.Rebalancing.{min_of, rows_from, rows_of, with_targets, at_max, need, share_out, rebalance, shares_gate, set_shares, tax_gate, set_tax, set_vm_tax}
use Rattle.esx_model.specs.sound.Machines.{IsVm}
use Rattle.esx_model.specs.sound.Frames.{AreFrames}
use Rattle.esx_model.specs.sound.Sound.{IsSound}
use Rattle.esx_model.proofs.HintsKept.{hints_stay}
use Rattle.esx_model.proofs.RowsOfSite.{resident_most, rows_of_sound}
use Rattle.esx_model.proofs.Machines.{fits_as}
use Rattle.esx_model.proofs.Kept.{Becomes, row_only}
use Rattle.esx_model.proofs.Gates.{of_vm, passed, gives, not_not}

good_shares : (spec : VmSpec) (shares : ℕ) → IsGood spec → (nat_le 1 shares && nat_le shares MAX_SHARES) ≡ true → IsGood (record spec { shares = shares })
good_shares spec shares good h = record {
  least_min = good.least_min;
  min_max = good.min_max;
  most_max = good.most_max;
  least_overhead = good.least_overhead;
  most_overhead = good.most_overhead;
  least_shares = grind (arith, nat_tests);
  most_shares = grind (arith, nat_tests);
  most_balloon = good.most_balloon;
  most_tau = good.most_tau;
}

shares_becomes : (c : Config) (v : Vm) (shares : ℕ) → IsVm c v → (nat_le 1 shares && nat_le shares MAX_SHARES) ≡ true → Becomes c v (record v { spec = record v.spec { shares = shares } })
shares_becomes c v shares fine h = record {
  fine = record {
    good = good_shares v.spec shares fine.good h;
    pages = fine.pages;
    least_target = fine.least_target;
    most_target = fine.most_target;
    state = fits_as v (record v { spec = record v.spec { shares = shares } }) v.state refl refl refl refl refl fine.state;
    places = fine.places;
    out = fine.out;
    lends = fine.lends;
    closed = fine.closed;
    period = fine.period;
  };
  memory = refl;
  swap = refl;
}

pub set_shares_sound : (c : Config) (s : Site) (n shares : ℕ) (r : Answer × Site) → IsSound c s → set_shares s n shares ≡ Ok r → IsSound c r.1
unfolding set_shares
set_shares_sound c s n shares r sound h =
    let m = of_vm (vm_at s n) _ r h in
    let v = m.vm in
    let pass = passed (shares_gate shares) _ r m.then in
    let w : Vm = record v { spec = record v.spec { shares = shares } } in
    gives c answers.Done (with_vm s n w) r pass.1 (row_only c s n v w sound m.there (shares_becomes c v shares (sound.each n v m.there) (not_not _ pass.0.0)) refl refl)

taxed : (c : Config) (s : Site) (tau : ℕ) → IsSound c s → tau ≤ MAX_TAU → IsSound c (record s { tau = tau })
unfolding all_places all_overhead
taxed c s tau sound most = record {
  vms = sound.vms;
  each = sound.each;
  memory = sound.memory;
  swap = sound.swap;
  tau = most;
  frames = sound.frames;
  hints = sound.hints;
}

most_tax : (tau : ℕ) → nat_lt MAX_TAU tau ≡ false → tau ≤ MAX_TAU
most_tax tau h = grind (arith, nat_tests)

pub set_tax_sound : (c : Config) (s : Site) (tau : ℕ) (r : Answer × Site) → IsSound c s → set_tax s tau ≡ Ok r → IsSound c r.1
unfolding set_tax
set_tax_sound c s tau r sound h =
    let pass = passed (tax_gate tau) _ r h in
    gives c answers.Done (record s { tau = tau }) r pass.1 (taxed c s tau sound (most_tax tau pass.0.0))

-- A machine's own tax.

good_tax : (spec : VmSpec) (tau : ℕ) → IsGood spec → tau ≤ MAX_TAU → IsGood (record spec { tau = Some tau })
good_tax spec tau good most = record {
  least_min = good.least_min;
  min_max = good.min_max;
  most_max = good.most_max;
  least_overhead = good.least_overhead;
  most_overhead = good.most_overhead;
  least_shares = good.least_shares;
  most_shares = good.most_shares;
  most_balloon = good.most_balloon;
  most_tau = most;
}

tax_becomes : (c : Config) (v : Vm) (tau : ℕ) → IsVm c v → tau ≤ MAX_TAU → Becomes c v (record v { spec = record v.spec { tau = Some tau } })
tax_becomes c v tau fine most = record {
  fine = record {
    good = good_tax v.spec tau fine.good most;
    pages = fine.pages;
    least_target = fine.least_target;
    most_target = fine.most_target;
    state = fits_as v (record v { spec = record v.spec { tau = Some tau } }) v.state refl refl refl refl refl fine.state;
    places = fine.places;
    out = fine.out;
    lends = fine.lends;
    closed = fine.closed;
    period = fine.period;
  };
  memory = refl;
  swap = refl;
}

pub set_vm_tax_sound : (c : Config) (s : Site) (n tau : ℕ) (r : Answer × Site) → IsSound c s → set_vm_tax s n tau ≡ Ok r → IsSound c r.1
unfolding set_vm_tax
set_vm_tax_sound c s n tau r sound h =
    let m = of_vm (vm_at s n) _ r h in
    let v = m.vm in
    let pass = passed (tax_gate tau) _ r m.then in
    let w : Vm = record v { spec = record v.spec { tau = Some tau } } in
    gives c answers.Done (with_vm s n w) r pass.1 (row_only c s n v w sound m.there (tax_becomes c v tau (sound.each n v m.there) (most_tax tau pass.0.0)) refl refl)

-- New targets for the machines in order.

-- a target for each machine, from its least to its most
abbrev AreBounded : List (Option Vm) → List ℕ → Type 0
AreBounded [] ts = Unit {0}
AreBounded (None ∷ os) ts = AreBounded os ts
AreBounded (Some v ∷ os) [] = AreBounded os []
AreBounded (Some v ∷ os) (t ∷ ts) = (v.spec.min ≤ t) × (t ≤ v.spec.max) × AreBounded os ts

target_fine : (c : Config) (v : Vm) (t : ℕ) → IsVm c v → v.spec.min ≤ t → t ≤ v.spec.max → IsVm c (record v { target = t })
target_fine c v t fine least most = record {
  good = fine.good;
  pages = fine.pages;
  least_target = least;
  most_target = most;
  state = fits_as v (record v { target = t }) v.state refl refl refl refl refl fine.state;
  places = fine.places;
  out = fine.out;
  lends = fine.lends;
  closed = fine.closed;
  period = fine.period;
}

length_retargeted : (os : List (Option Vm)) (ts : List ℕ) → length (with_targets os ts) ≡ length os
length_retargeted [] ts = refl
length_retargeted (None ∷ os) ts = (let rest = length_retargeted os ts in omega (arith, rest))
length_retargeted (Some v ∷ os) [] = (let rest = length_retargeted os [] in omega (arith, rest))
length_retargeted (Some v ∷ os) (t ∷ ts) = (let rest = length_retargeted os ts in omega (arith, rest))

-- what does not look at targets
abbrev IsBlind : {X : Type 0} → (Option Vm → X) → Type 0
IsBlind {X} h = (v : Vm) (t : ℕ) → h (Some (record v { target = t })) ≡ h (Some v)

sum_retargeted : (f : Option Vm → ℕ) → IsBlind f → (os : List (Option Vm)) (ts : List ℕ) → sum_by f (with_targets os ts) ≡ sum_by f os
sum_retargeted f blind [] ts = refl
sum_retargeted f blind (None ∷ os) ts = (let a = sum_by-cons f None (with_targets os ts) in let b = sum_by-cons f None os in let rest = sum_retargeted f blind os ts in omega (arith, a, b, rest))
sum_retargeted f blind (Some v ∷ os) [] = (let a = sum_by-cons f (Some v) (with_targets os []) in let b = sum_by-cons f (Some v) os in let rest = sum_retargeted f blind os [] in omega (arith, a, b, rest))
sum_retargeted f blind (Some v ∷ os) (t ∷ ts) =
    let a = sum_by-cons f (Some (record v { target = t })) (with_targets os ts) in
    let b = sum_by-cons f (Some v) os in
    let same = blind v t in
    let rest = sum_retargeted f blind os ts in
    omega (arith, a, b, same, rest)

flat_retargeted : {X : Type 0} (h : Option Vm → List X) → IsBlind h → (os : List (Option Vm)) (ts : List ℕ) → flat_map h (with_targets os ts) ≡ flat_map h os
flat_retargeted h blind [] ts = refl
flat_retargeted {X = X} h blind (None ∷ os) ts = ap (λ (m : List X). h None ++ m) (flat_retargeted h blind os ts)
flat_retargeted {X = X} h blind (Some v ∷ os) [] = ap (λ (m : List X). h (Some v) ++ m) (flat_retargeted h blind os [])
flat_retargeted {X = X} h blind (Some v ∷ os) (t ∷ ts) = ap (λ (m : List X). m ++ flat_map h (with_targets os ts)) (blind v t) ∙ ap (λ (m : List X). h (Some v) ++ m) (flat_retargeted h blind os ts)

pub place_retargeted : (os : List (Option Vm)) (ts : List ℕ) (m k : ℕ) → place_in (get_or (with_targets os ts) m None) k ≡ place_in (get_or os m None) k
place_retargeted [] ts m k = refl
place_retargeted (None ∷ os) ts zero k = refl
place_retargeted (None ∷ os) ts (suc m) k = place_retargeted os ts m k
place_retargeted (Some v ∷ os) [] zero k = refl
place_retargeted (Some v ∷ os) [] (suc m) k = place_retargeted os [] m k
place_retargeted (Some v ∷ os) (t ∷ ts) zero k = refl
place_retargeted (Some v ∷ os) (t ∷ ts) (suc m) k = place_retargeted os ts m k

fine_same : (c : Config) (v x : Vm) → Some v ≡ Some x → IsVm c v → IsVm c x
fine_same c v x h fine = (let e : v ≡ x = cc in let P : Vm → Type 0 = IsVm c in subst P e fine)

each_retargeted : (c : Config) (os : List (Option Vm)) (ts : List ℕ) → ((n : ℕ) (v : Vm) → get_or os n None ≡ Some v → IsVm c v) → AreBounded os ts
    → (n : ℕ) (x : Vm) → get_or (with_targets os ts) n None ≡ Some x → IsVm c x
each_retargeted c [] ts each bounds n x h = cc
each_retargeted c (None ∷ os) ts each bounds zero x h = cc
each_retargeted c (None ∷ os) ts each bounds (suc n) x h = each_retargeted c os ts (λ k v e. each (suc k) v e) bounds n x h
each_retargeted c (Some v ∷ os) [] each bounds zero x h = fine_same c v x h (each zero v refl)
each_retargeted c (Some v ∷ os) [] each bounds (suc n) x h = each_retargeted c os [] (λ k v e. each (suc k) v e) bounds n x h
each_retargeted c (Some v ∷ os) (t ∷ ts) each bounds zero x h = fine_same c (record v { target = t }) x h (target_fine c v t (each zero v refl) bounds.0 bounds.1)
each_retargeted c (Some v ∷ os) (t ∷ ts) each bounds (suc n) x h = each_retargeted c os ts (λ k v e. each (suc k) v e) bounds.2 n x h

abbrev pub retargeted : Site → List ℕ → Site
retargeted s ts = record s { vms = with_targets s.vms ts }

pub places_retargeted : (s : Site) (ts : List ℕ) → all_places (retargeted s ts) ≡ all_places s
unfolding all_places
places_retargeted s ts = flat_retargeted vm_places (λ v t. refl) s.vms ts

pub overhead_retargeted : (s : Site) (ts : List ℕ) → all_overhead (retargeted s ts) ≡ all_overhead s
unfolding all_overhead
overhead_retargeted s ts = flat_retargeted vm_overhead (λ v t. refl) s.vms ts

retargeted_sound : (c : Config) (s : Site) (ts : List ℕ) → IsSound c s → AreBounded s.vms ts → IsSound c (retargeted s ts)
retargeted_sound c s ts sound bounds =
    let P : List Place → Type 0 = λ ps. AreFrames c.frames ps (all_overhead (retargeted s ts)) in
    let Q : List ℕ → Type 0 = AreFrames c.frames (all_places s) in
    record {
      vms = length_retargeted s.vms ts ∙ sound.vms;
      each = each_retargeted c s.vms ts sound.each bounds;
      memory = (let same = sum_retargeted memory_reserve (λ v t. refl) s.vms ts in omega (arith, same, sound.memory));
      swap = (let same = sum_retargeted swap_reserve (λ v t. refl) s.vms ts in omega (arith, same, sound.swap));
      tau = sound.tau;
      frames = subst P (sym (places_retargeted s ts)) (subst Q (sym (overhead_retargeted s ts)) sound.frames);
      hints = hints_stay (place_of s) (place_of (retargeted s ts)) s.hints sound.hints (λ m k. place_retargeted s.vms ts m k);
    }

-- At the highest level each has all it asked for.

maxes : List (Option Vm) → List ℕ
maxes [] = []
maxes (None ∷ os) = maxes os
maxes (Some v ∷ os) = v.spec.max ∷ maxes os

maxes_are : (os : List (Option Vm)) → map (option_map at_max) os ≡ with_targets os (maxes os)
unfolding maxes
maxes_are [] = refl
maxes_are (None ∷ os) = ap (λ (m : List (Option Vm)). None ∷ m) (maxes_are os)
maxes_are (Some v ∷ os) = ap (λ (m : List (Option Vm)). Some (at_max v) ∷ m) (maxes_are os)

maxes_bounded : (c : Config) (os : List (Option Vm)) → ((n : ℕ) (v : Vm) → get_or os n None ≡ Some v → IsVm c v) → AreBounded os (maxes os)
unfolding maxes
maxes_bounded c [] each = tt
maxes_bounded c (None ∷ os) each = maxes_bounded c os (λ k v e. each (suc k) v e)
maxes_bounded c (Some v ∷ os) each = ((each zero v refl).good.min_max, omega arith, maxes_bounded c os (λ k v e. each (suc k) v e))

-- Below it targets are made from rows.

bounded_by_rows : (c : Config) (tau n : ℕ) (os : List (Option Vm)) (ts : List ℕ) → ((n : ℕ) (v : Vm) → get_or os n None ≡ Some v → IsVm c v) → length ts ≡ length (rows_from tau min_of n os)
    → ((i : ℕ) → i < length (rows_from tau min_of n os) → (row_at (rows_from tau min_of n os) i).floor ≤ slice_index ts i)
    → ((i : ℕ) → i < length (rows_from tau min_of n os) → slice_index ts i ≤ held (row_at (rows_from tau min_of n os) i)) → AreBounded os ts
bounded_by_rows c tau n [] ts each count least most = tt
bounded_by_rows c tau n (None ∷ os) ts each count least most = bounded_by_rows c tau (n + 1) os ts (λ k v e. each (suc k) v e) count least most
bounded_by_rows c tau n (Some v ∷ os) [] each count least most = absurd (omega (arith, count))
bounded_by_rows c tau n (Some v ∷ os) (t ∷ ts) each count least most =
    let fine = each zero v refl in
    let low = least zero (omega arith) in
    let high = most zero (omega arith) in
    let few = resident_most c v fine in
    (low, omega (arith, high, few, fine.good.min_max), bounded_by_rows c tau (n + 1) os ts (λ k v e. each (suc k) v e) (omega (arith, count)) (λ i h. least (suc i) (omega (arith, h))) (λ i h. most (suc i) (omega (arith, h))))

shared_bounds : (c : Config) (s : Site) (need : ℕ) → IsSound c s → AreBounded s.vms (targets_of (rows_of min_of s) need)
unfolding rows_of
shared_bounds c s need sound =
    let rows = rows_of_sound c s min_of sound (λ v fine. omega (arith, fine.good.min_max, fine.good.most_max)) in
    let targets = worked_out (rows_from s.tau min_of 0 s.vms) rows need in
    bounded_by_rows c s.tau 0 s.vms (targets_of (rows_from s.tau min_of 0 s.vms) need) sound.each targets.count targets.least targets.most

share_out_sound : (c : Config) (s : Site) (r : Answer × Site) → IsSound c s → share_out c s ≡ Ok r → IsSound c r.1
share_out_sound c s r sound h =
    gives c (answers.Rebalanced (need c s) (min (need c s) (sum_by spare (rows_of min_of s)))) (retargeted s (targets_of (rows_of min_of s) (need c s))) r h
    (retargeted_sound c s (targets_of (rows_of min_of s) (need c s)) sound (shared_bounds c s (need c s) sound))

pub rebalance_sound : (c : Config) (s : Site) (level : Level) (r : Answer × Site) → IsSound c s → rebalance c s level ≡ Ok r → IsSound c r.1
unfolding rebalance
rebalance_sound c s High r sound h =
    let P : List (Option Vm) → Type 0 = λ vms. IsSound c (record s { vms = vms }) in
    gives c (answers.Rebalanced 0 0) (record s { vms = map (option_map at_max) s.vms }) r h
    (subst P (sym (maxes_are s.vms)) (retargeted_sound c s (maxes s.vms) sound (maxes_bounded c s.vms sound.each)))
rebalance_sound c s Soft r sound h = share_out_sound c s r sound h
rebalance_sound c s Hard r sound h = share_out_sound c s r sound h
rebalance_sound c s Low r sound h = share_out_sound c s r sound h
