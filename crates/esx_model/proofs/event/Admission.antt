-- A machine that comes keeps a site sound.
use Rattle.std.proofs.Common.{◌≡◌, ℕ, zero, suc, ◌+◌, ◌≤◌, ◌<◌, Bool, true, false, nat_lt, List, [], length, get_or, set, replicate, count_by, sum_by, refl, sym, ap, ◌∙◌, subst, arith, Option, Some, None, Ok, inl, inr}
use Rattle.std.specs.Prelude.{is_some}
use Rattle.std.specs.List.{filter, AllByRecursion}
use Rattle.std.proofs.lemmas.List.{length-replicate, length-set, set_past, get_or-set_same, get_or-set_other}
use Rattle.std.proofs.lemmas.List.Sums.{sum_by-set}
use Rattle.std.proofs.lemmas.Bool.{cases_eq, cases_lt}
use Rattle.std.proofs.lemmas.Bool.Decides.{nat_tests}
use Rattle.esx_lists.proofs.Counts.{count_by-replicate}
use Rattle.esx_types.specs.declared.config.Config.{Config}
use Rattle.esx_types.specs.declared.config.TheConstants.{VM_NUMBERS}
use Rattle.esx_types.specs.declared.vm.VmSpec.{VmSpec}
use Rattle.esx_types.specs.Ranges.{is_good, IsGood, IsTax, is_tax}
use Rattle.esx_events.specs.declared.event.Answer.{Answer}
use Rattle.esx_events.specs.declared.event.Answer.TheVariants as answers
use Rattle.esx_model.specs.declared.scene.Place.{Place}
use Rattle.esx_model.specs.declared.scene.Place.TheVariants.{Untouched}
use Rattle.esx_model.specs.declared.scene.Vm.{Vm}
use Rattle.esx_model.specs.declared.scene.Site.{Site}
use Rattle.esx_model.specs.Places.{is_here_at, is_out_at, is_here, is_out, is_lent_in}
use Rattle.esx_model.specs.Site.{vm_at, with_vm, place_in, place_of, vm_places, vm_overhead, all_places, all_overhead, memory_reserve, swap_reserve}
use Rattle.esx_model.specs.event.Admission.{admit_gate, memory_with, swap_with, reserves_in, admitted, admit}
use Rattle.esx_model.specs.sound.Machines.{IsVm, IsPlace}
use Rattle.esx_model.specs.sound.Frames.{AreFrames}
use Rattle.esx_model.specs.sound.Sound.{IsSound}
use Rattle.esx_model.proofs.Lists.{same_inside, filter_inside}
use Rattle.esx_model.proofs.FramesKept.{frames_same}
use Rattle.esx_model.proofs.HintsKept.{hints_stay}
use Rattle.esx_model.proofs.Kept.{vm_after, vm_changed}
use Rattle.esx_model.proofs.Gates.{passed, gives, not_not}

tax_by_test : (own : Option ℕ) → is_tax own ≡ true → IsTax own
tax_by_test None h = tt
tax_by_test (Some tau) h = grind (arith, nat_tests)

pub good_by_test : (spec : VmSpec) → is_good spec ≡ true → IsGood spec
good_by_test spec h = record {
  least_min = grind (arith, nat_tests);
  min_max = grind (arith, nat_tests);
  most_max = grind (arith, nat_tests);
  least_overhead = grind (arith, nat_tests);
  most_overhead = grind (arith, nat_tests);
  least_shares = grind (arith, nat_tests);
  most_shares = grind (arith, nat_tests);
  most_balloon = grind (arith, nat_tests);
  most_tau = tax_by_test spec.tau (grind (arith, nat_tests));
}

untouched_places : (c : Config) (n : ℕ) → AllByRecursion (IsPlace c 0) (replicate n Untouched)
untouched_places c zero = tt
untouched_places c (suc n) = (tt, untouched_places c n)

none_untouched : (q : Place → Bool) (n : ℕ) → q Untouched ≡ false → filter q (replicate n Untouched) ≡ []
none_untouched q zero e = refl
none_untouched q (suc n) e = rw e (none_untouched q n e)

untouched_at : (n k : ℕ) → get_or (replicate n Untouched) k Untouched ≡ Untouched
untouched_at zero k = refl
untouched_at (suc n) zero = refl
untouched_at (suc n) (suc k) = untouched_at n k

admitted_fine : (c : Config) (spec : VmSpec) → IsGood spec → IsVm c (admitted spec)
admitted_fine c spec good =
    let none : (q : Place → Bool) → q Untouched ≡ false → count_by q (replicate spec.max Untouched) ≡ 0 = λ q e. count_by-replicate q spec.max Untouched e in
    let out = none is_out refl in
    let lends = none (is_lent_in 0) refl in
    record {
      good = good;
      pages = length-replicate spec.max Untouched;
      least_target = good.min_max;
      most_target = omega arith;
      state = (omega (arith, good.least_overhead), none is_here refl, out, lends, refl);
      places = untouched_places c spec.max;
      out = omega (arith, out);
      lends = omega (arith, lends);
      closed = tt;
      period = tt;
    }

no_vm : (o : Option Vm) → is_some o ≡ false → o ≡ None
no_vm None h = refl
no_vm (Some v) h = cc

most : (most n : ℕ) → nat_lt most n ≡ false → n ≤ most
most m n h = grind (arith, nat_tests)

pub places_more : (s : Site) (n : ℕ) (spec : VmSpec) (q : Place → Bool) → n < length s.vms → vm_at s n ≡ None → q Untouched ≡ false → filter q (all_places (with_vm s n (admitted spec))) ≡ filter q (all_places s)
unfolding all_places
places_more s n spec q below there e =
    filter_inside q vm_places None (Some (admitted spec)) s.vms (set s.vms n (Some (admitted spec))) (vm_changed s n None (admitted spec) below there) (sym (none_untouched q spec.max e))

pub overhead_more : (s : Site) (n : ℕ) (spec : VmSpec) → n < length s.vms → vm_at s n ≡ None → all_overhead (with_vm s n (admitted spec)) ≡ all_overhead s
unfolding all_overhead
overhead_more s n spec below there = same_inside vm_overhead None (Some (admitted spec)) s.vms (set s.vms n (Some (admitted spec))) (vm_changed s n None (admitted spec) below there) refl

pub place_kept : (s : Site) (n m k : ℕ) (spec : VmSpec) → n < length s.vms → vm_at s n ≡ None → place_of (with_vm s n (admitted spec)) m k ≡ place_of s m k
place_kept s n m k spec below there = elim (cases_eq m n) [
  | inl e ↦ ap (λ j. place_in (get_or (set s.vms n (Some (admitted spec))) j None) k) e ∙ ap (λ o. place_in o k) (get_or-set_same s.vms n (Some (admitted spec)) None below)
      ∙ untouched_at spec.max k ∙ ap (λ o. place_in o k) (sym there) ∙ ap (λ j. place_of s j k) (sym e)
  | inr other ↦ ap (λ o. place_in o k) (get_or-set_other s.vms n m (Some (admitted spec)) None other)
]

reserve_more : (f : Option Vm → ℕ) (s : Site) (n : ℕ) (w : Vm) → n < length s.vms → vm_at s n ≡ None → sum_by f (set s.vms n (Some w)) + f None ≡ sum_by f s.vms + f (Some w)
reserve_more f s n w below there = (let sums = sum_by-set f s.vms n (Some w) None below in let here = ap f there in omega (arith, sums, here))

admitted_sound : (c : Config) (s : Site) (n : ℕ) (spec : VmSpec) → IsSound c s → n < length s.vms → vm_at s n ≡ None → IsGood spec → memory_with s spec ≤ c.frames → swap_with s spec ≤ c.slots → IsSound c (with_vm s n (admitted spec))
admitted_sound c s n spec sound below there good memory swap =
    let w = admitted spec in
    let t = with_vm s n w in
    let P : List ℕ → Type 0 = AreFrames c.frames (all_places t) in
    record {
      vms = length-set s.vms n (Some w) ∙ sound.vms;
      each = λ m x h. elim (vm_after s n m w x s.hints below h) [
        | inl e ↦ (let P : Vm → Type 0 = IsVm c in subst P (sym e) (admitted_fine c spec good))
        | inr before ↦ sound.each m x before
      ];
      memory = (let sums = reserve_more memory_reserve s n w below there in omega (arith, sums, memory));
      swap = (let sums = reserve_more swap_reserve s n w below there in omega (arith, sums, swap));
      tau = sound.tau;
      frames = subst P (sym (overhead_more s n spec below there)) (frames_same c.frames (all_places s) (all_places t) (all_overhead s) sound.frames
          (λ f. places_more s n spec (is_here_at f) below there refl) (λ i. places_more s n spec (is_out_at i) below there refl));
      hints = hints_stay (place_of s) (place_of t) s.hints sound.hints (λ m k. place_kept s n m k spec below there);
    }

-- under a number that there is not nobody comes
pub admitted_nowhere : (c : Config) (s : Site) (n : ℕ) (spec : VmSpec) → IsSound c s → VM_NUMBERS ≤ n → with_vm s n (admitted spec) ≡ s
admitted_nowhere c s n spec sound beyond = ap (λ (vms : List (Option Vm)). record s { vms = vms }) (set_past s.vms n (Some (admitted spec)) (omega (arith, sound.vms, beyond)))

pub admit_sound : (c : Config) (s : Site) (n : ℕ) (spec : VmSpec) (r : Answer × Site) → IsSound c s → admit c s n spec ≡ Ok r → IsSound c r.1
unfolding admit
admit_sound c s n spec r sound h =
    let pass = passed (admit_gate c (is_some (vm_at s n)) spec (memory_with s spec) (swap_with s spec)) _ r h in
    let said : Answer = answers.Admitted (reserves_in c (memory_with s spec) (swap_with s spec)) in
    gives c said (with_vm s n (admitted spec)) r pass.1 (elim (cases_lt n VM_NUMBERS) [
      | inl named ↦ (let below : n < length s.vms = omega (arith, sound.vms, named) in
          admitted_sound c s n spec sound below (no_vm (vm_at s n) pass.0.0) (good_by_test spec (not_not _ pass.0.1.0)) (most c.frames (memory_with s spec) pass.0.1.1.0) (most c.slots (swap_with s spec) pass.0.1.1.1.0))
      | inr beyond ↦ subst (IsSound c) (sym (admitted_nowhere c s n spec sound beyond)) sound
    ])
