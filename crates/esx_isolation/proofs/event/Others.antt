-- What the other events do to memories.
use Rattle.std.proofs.Common.{◌≡◌, ℕ, suc, zero, ◌+◌, ◌<◌, ◌≤◌, not, nat_lt, List, [], ◌∷◌, length, length-append, map, get_or, refl, sym, ap, ◌∙◌, subst, arith, Option, Some, None, Ok, is_some}
use Rattle.std.specs.Option.{option_map}
use Rattle.esx_types.specs.declared.config.Config.{Config}
use Rattle.esx_types.specs.declared.config.TheConstants.{VM_NUMBERS}
use Rattle.esx_types.specs.declared.level.Level.{Level}
use Rattle.esx_types.specs.declared.level.Level.TheVariants.{High, Soft, Hard, Low}
use Rattle.esx_types.specs.declared.vm.VmSpec.{VmSpec}
use Rattle.esx_events.specs.declared.event.Answer.{Answer}
use Rattle.esx_events.specs.declared.event.Answer.TheVariants as answers
use Rattle.esx_formulas.specs.Targets.{targets_of}
use Rattle.esx_model.specs.declared.scene.Vm.{Vm}
use Rattle.esx_model.specs.declared.scene.Site.{Site}
use Rattle.esx_model.specs.Site.{vm_at, with_vm, least_free}
use Rattle.esx_model.specs.event.Outcome.{standing}
use Rattle.esx_model.specs.event.Admission.{memory_with, swap_with, admit_gate, reserves_in, admitted, admit}
use Rattle.esx_model.specs.event.Starting.{start_gate, with_overhead, take_overhead, start}
use Rattle.esx_model.specs.event.Sampling.{sample_gate, opened_period, sample}
use Rattle.esx_model.specs.event.Rebalancing.{with_targets, at_max, rows_of, min_of, need, share_out, rebalance, shares_gate, set_shares, tax_gate, set_tax, set_vm_tax}
use Rattle.esx_model.specs.sound.Sound.{IsSound}
use Rattle.esx_model.proofs.Callers.{admitted_nowhere, of_vm, passed, accepted, same_site}
use Rattle.esx_model.specs.Memory.{Memory, memory_of, with_frame}
use Rattle.esx_isolation.proofs.Turns.{Has, Keeps, Turns, has_set, has_vm, turns_by, turns_none, keeps_of}

has_turns : (c : Config) (s t : Site) (n : ℕ) (o : Option Memory) → Has c s n o t → Turns c s n (λ x. o) t
has_turns c s t n o has m = has m

pub admit_turns : (c : Config) (s : Site) (n : ℕ) (spec : VmSpec) (r : Answer × Site) → IsSound c s → n < VM_NUMBERS → admit c s n spec ≡ Ok r → Turns c s n (λ o. Some (memory_of c (admitted spec))) r.1
unfolding admit
admit_turns c s n spec r sound below h =
    let pass = passed (admit_gate c (is_some (vm_at s n)) spec (memory_with s spec) (swap_with s spec)) _ r h in
    let P : Site → Type 0 = Turns c s n (λ o. Some (memory_of c (admitted spec))) in
    subst P (same_site (answers.Admitted (reserves_in c (memory_with s spec) (swap_with s spec))) (with_vm s n (admitted spec)) r pass.1)
    (has_set c s n (Some (admitted spec)) s.hints s.tau (let len = sound.vms in omega (arith, len, below)))

-- under a number that there is not nobody comes
pub admit_nobody : (c : Config) (s : Site) (n : ℕ) (spec : VmSpec) (r : Answer × Site) → IsSound c s → VM_NUMBERS ≤ n → admit c s n spec ≡ Ok r → r.1 ≡ s
unfolding admit
admit_nobody c s n spec r sound beyond h =
    let pass = passed (admit_gate c (is_some (vm_at s n)) spec (memory_with s spec) (swap_with s spec)) _ r h in
    sym (same_site (answers.Admitted (reserves_in c (memory_with s spec) (swap_with s spec))) (with_vm s n (admitted spec)) r pass.1) ∙ admitted_nowhere c s n spec sound beyond

taken_turns : (c : Config) (s : Site) (n : ℕ) (v : Vm) (o : Option ℕ) (r : Answer × Site) → vm_at s n ≡ Some v → take_overhead s n v o ≡ Ok r → Turns c s n (option_map with_frame) r.1
taken_turns c s n v None r there h = cc
taken_turns c s n v (Some f) r there h =
    let w = with_overhead v f in
    let P : Site → Type 0 = Turns c s n (option_map with_frame) in
    subst P (same_site (answers.Started (not (nat_lt (length v.overhead + 1) v.spec.overhead)) f (length v.overhead + 1) v.spec.overhead) (with_vm s n w) r h)
    (turns_by c s (with_vm s n w) n v (Some (memory_of c w)) (option_map with_frame) there (has_vm c s n v w s.hints there)
    (ap (λ held. Some (record (memory_of c w) { held = held })) (length-append v.overhead (f ∷ []))))

pub start_turns : (c : Config) (s : Site) (n : ℕ) (r : Answer × Site) → start c s n ≡ Ok r → Turns c s n (option_map with_frame) r.1
unfolding start
start_turns c s n r h =
    let own = of_vm (vm_at s n) _ r h in
    let v = own.vm in
    let pass = passed (start_gate (standing v)) _ r own.then in
    taken_turns c s n v (least_free c.frames s) r own.there pass.1

-- a machine changes in what its guest does not know
pub row_keeps : (c : Config) (s : Site) (n : ℕ) (v w : Vm) (a : Answer) (r : Answer × Site) → vm_at s n ≡ Some v → memory_of c w ≡ memory_of c v → accepted a (with_vm s n w) ≡ Ok r → Turns c s n (λ o. o) r.1
row_keeps c s n v w a r there is h =
    let P : Site → Type 0 = Turns c s n (λ o. o) in
    subst P (same_site a (with_vm s n w) r h) (turns_none c s (with_vm s n w) n (keeps_of c s (with_vm s n w) n v (Some (memory_of c w)) there (has_vm c s n v w s.hints there) (ap Some is)))

pub sample_turns : (c : Config) (s : Site) (n len : ℕ) (words : List ℕ) (r : Answer × Site) → sample s n len words ≡ Ok r → Turns c s n (λ o. o) r.1
unfolding sample
sample_turns c s n len words r h =
    let own = of_vm (vm_at s n) _ r h in
    let v = own.vm in
    let pass = passed (sample_gate (standing v) (length words) len (is_some v.period)) _ r own.then in
    row_keeps c s n v (record v { period = Some (opened_period v.spec.max len words) }) (answers.Opened len (length words)) r own.there refl pass.1

pub set_shares_turns : (c : Config) (s : Site) (n shares : ℕ) (r : Answer × Site) → set_shares s n shares ≡ Ok r → Turns c s n (λ o. o) r.1
unfolding set_shares
set_shares_turns c s n shares r h =
    let own = of_vm (vm_at s n) _ r h in
    let v = own.vm in
    let pass = passed (shares_gate shares) _ r own.then in
    row_keeps c s n v (record v { spec = record v.spec { shares = shares } }) answers.Done r own.there refl pass.1

pub set_tax_keeps : (c : Config) (s : Site) (tau : ℕ) (r : Answer × Site) → set_tax s tau ≡ Ok r → Keeps c s r.1
unfolding set_tax
set_tax_keeps c s tau r h =
    let pass = passed (tax_gate tau) _ r h in
    let P : Site → Type 0 = Keeps c s in
    subst P (same_site answers.Done (record s { tau = tau }) r pass.1) (λ m. refl)

pub set_vm_tax_turns : (c : Config) (s : Site) (n tau : ℕ) (r : Answer × Site) → set_vm_tax s n tau ≡ Ok r → Turns c s n (λ o. o) r.1
unfolding set_vm_tax
set_vm_tax_turns c s n tau r h =
    let own = of_vm (vm_at s n) _ r h in
    let v = own.vm in
    let pass = passed (tax_gate tau) _ r own.then in
    row_keeps c s n v (record v { spec = record v.spec { tau = Some tau } }) answers.Done r own.there refl pass.1

-- Targets are no matter of memories.

at_max_keeps : (c : Config) (vms : List (Option Vm)) (m : ℕ) → option_map (memory_of c) (get_or (map (option_map at_max) vms) m None) ≡ option_map (memory_of c) (get_or vms m None)
at_max_keeps c [] m = refl
at_max_keeps c (None ∷ vms) zero = refl
at_max_keeps c (Some v ∷ vms) zero = refl
at_max_keeps c (o ∷ vms) (suc m) = at_max_keeps c vms m

targets_keep : (c : Config) (vms : List (Option Vm)) (targets : List ℕ) (m : ℕ) → option_map (memory_of c) (get_or (with_targets vms targets) m None) ≡ option_map (memory_of c) (get_or vms m None)
targets_keep c [] targets m = refl
targets_keep c (None ∷ vms) targets zero = refl
targets_keep c (None ∷ vms) targets (suc m) = targets_keep c vms targets m
targets_keep c (Some v ∷ vms) [] zero = refl
targets_keep c (Some v ∷ vms) [] (suc m) = targets_keep c vms [] m
targets_keep c (Some v ∷ vms) (t ∷ targets) zero = refl
targets_keep c (Some v ∷ vms) (t ∷ targets) (suc m) = targets_keep c vms targets m

shared_out_keeps : (c : Config) (s : Site) (r : Answer × Site) → share_out c s ≡ Ok r → Keeps c s r.1
shared_out_keeps c s r h =
    let P : Site → Type 0 = Keeps c s in
    subst P (same_site _ (record s { vms = with_targets s.vms (targets_of (rows_of min_of s) (need c s)) }) r h) (targets_keep c s.vms (targets_of (rows_of min_of s) (need c s)))

pub rebalance_keeps : (c : Config) (s : Site) (level : Level) (r : Answer × Site) → rebalance c s level ≡ Ok r → Keeps c s r.1
unfolding rebalance
rebalance_keeps c s High r h =
    let P : Site → Type 0 = Keeps c s in
    subst P (same_site (answers.Rebalanced 0 0) (record s { vms = map (option_map at_max) s.vms }) r h) (at_max_keeps c s.vms)
rebalance_keeps c s Soft r h = shared_out_keeps c s r h
rebalance_keeps c s Hard r h = shared_out_keeps c s r h
rebalance_keeps c s Low r h = shared_out_keeps c s r h
