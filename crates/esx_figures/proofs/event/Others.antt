-- The other events change nothing of pages in shared frames.
use Rattle.std.proofs.Common.{◌≡◌, ℕ, suc, zero, ◌+◌, not, nat_lt, List, [], ◌∷◌, length, map, get_or, replicate, refl, sym, ap, ◌∙◌, subst, arith, false, Option, Some, None, Ok, cond, is_some, inl, inr, count_by}
use Rattle.std.specs.Option.{option_map}
use Rattle.std.proofs.lemmas.Bool.{cases_lt}
use Rattle.std.proofs.lemmas.List.{set_past}
use Rattle.std.proofs.lemmas.List.Sums.{sum_by-cons}
use Rattle.esx_types.specs.declared.config.Config.{Config}
use Rattle.esx_types.specs.declared.level.Level.{Level}
use Rattle.esx_types.specs.declared.level.Level.TheVariants.{High, Soft, Hard, Low}
use Rattle.esx_types.specs.declared.vm.VmSpec.{VmSpec}
use Rattle.esx_events.specs.declared.event.Answer.{Answer}
use Rattle.esx_events.specs.declared.event.Answer.TheVariants as answers
use Rattle.esx_formulas.specs.Targets.{targets_of}
use Rattle.esx_model.specs.declared.scene.Place.TheVariants.{Untouched}
use Rattle.esx_model.specs.declared.scene.Vm.{Vm}
use Rattle.esx_model.specs.declared.scene.Site.{Site}
use Rattle.esx_model.specs.Places.{is_shared}
use Rattle.esx_model.specs.Site.{vm_at, with_vm, least_free}
use Rattle.esx_model.specs.event.Outcome.{standing}
use Rattle.esx_model.specs.event.Admission.{memory_with, swap_with, admit_gate, reserves_in, admitted, admit}
use Rattle.esx_model.specs.event.Starting.{start_gate, with_overhead, take_overhead, start}
use Rattle.esx_model.specs.event.Sampling.{sample_gate, opened_period, sample}
use Rattle.esx_model.specs.event.Rebalancing.{with_targets, at_max, rows_of, min_of, need, share_out, rebalance, shares_gate, set_shares, tax_gate, set_tax, set_vm_tax}
use Rattle.esx_model.proofs.Callers.{of_vm, passed, accepted, same_site}
use Rattle.esx_figures.specs.Sharing.{shared_in}
use Rattle.esx_figures.proofs.Marks.{Shares, shares_same, same_vm, same_set}

fresh : (k : ℕ) → count_by is_shared (replicate k Untouched) ≡ 0
fresh zero = refl
fresh (suc k) =
    let a = sum_by-cons (λ x. cond (is_shared x) 1 0) Untouched (replicate k Untouched) in
    let rest = fresh k in
    omega (arith, a, rest)

nobody : (o : Option Vm) → is_some o ≡ false → shared_in o ≡ 0
nobody None h = refl
nobody (Some v) h = cc

pub admit_shares : (c : Config) (s : Site) (n : ℕ) (spec : VmSpec) (r : Answer × Site) → admit c s n spec ≡ Ok r → Shares s r.1 None None None
unfolding admit
admit_shares c s n spec r h =
    let pass = passed (admit_gate c (is_some (vm_at s n)) spec (memory_with s spec) (swap_with s spec)) _ r h in
    let P : Site → Type 0 = λ t. Shares s t None None None in
    let t = with_vm s n (admitted spec) in
    subst P (same_site (answers.Admitted (reserves_in c (memory_with s spec) (swap_with s spec))) t r pass.1)
    (shares_same s t (elim (cases_lt n (length s.vms)) [
      | inl below ↦ same_set s n (Some (admitted spec)) s.hints s.tau below (fresh spec.max ∙ sym (nobody (vm_at s n) pass.0.0))
      | inr beyond ↦ (λ m. ap (λ (vms : List (Option Vm)). shared_in (get_or vms m None)) (set_past s.vms n (Some (admitted spec)) beyond))
    ]))

-- a machine changes in what is not its pages
row_shares : (s : Site) (n : ℕ) (v w : Vm) (a : Answer) (r : Answer × Site) → vm_at s n ≡ Some v → w.places ≡ v.places → accepted a (with_vm s n w) ≡ Ok r → Shares s r.1 None None None
row_shares s n v w a r there is h =
    let P : Site → Type 0 = λ t. Shares s t None None None in
    subst P (same_site a (with_vm s n w) r h) (shares_same s (with_vm s n w) (same_vm s n v w s.hints there is))

taken_shares : (s : Site) (n : ℕ) (v : Vm) (o : Option ℕ) (r : Answer × Site) → vm_at s n ≡ Some v → take_overhead s n v o ≡ Ok r → Shares s r.1 None None None
taken_shares s n v None r there h = cc
taken_shares s n v (Some f) r there h = row_shares s n v (with_overhead v f) (answers.Started (not (nat_lt (length v.overhead + 1) v.spec.overhead)) f (length v.overhead + 1) v.spec.overhead) r there refl h

pub start_shares : (c : Config) (s : Site) (n : ℕ) (r : Answer × Site) → start c s n ≡ Ok r → Shares s r.1 None None None
unfolding start
start_shares c s n r h =
    let own = of_vm (vm_at s n) _ r h in
    let v = own.vm in
    let pass = passed (start_gate (standing v)) _ r own.then in
    taken_shares s n v (least_free c.frames s) r own.there pass.1

pub sample_shares : (s : Site) (n len : ℕ) (words : List ℕ) (r : Answer × Site) → sample s n len words ≡ Ok r → Shares s r.1 None None None
unfolding sample
sample_shares s n len words r h =
    let own = of_vm (vm_at s n) _ r h in
    let v = own.vm in
    let pass = passed (sample_gate (standing v) (length words) len (is_some v.period)) _ r own.then in
    row_shares s n v (record v { period = Some (opened_period v.spec.max len words) }) (answers.Opened len (length words)) r own.there refl pass.1

pub set_shares_shares : (s : Site) (n shares : ℕ) (r : Answer × Site) → set_shares s n shares ≡ Ok r → Shares s r.1 None None None
unfolding set_shares
set_shares_shares s n shares r h =
    let own = of_vm (vm_at s n) _ r h in
    let v = own.vm in
    let pass = passed (shares_gate shares) _ r own.then in
    row_shares s n v (record v { spec = record v.spec { shares = shares } }) answers.Done r own.there refl pass.1

pub set_tax_shares : (s : Site) (tau : ℕ) (r : Answer × Site) → set_tax s tau ≡ Ok r → Shares s r.1 None None None
unfolding set_tax
set_tax_shares s tau r h =
    let pass = passed (tax_gate tau) _ r h in
    let P : Site → Type 0 = λ t. Shares s t None None None in
    subst P (same_site answers.Done (record s { tau = tau }) r pass.1) (shares_same s (record s { tau = tau }) (λ m. refl))

pub set_vm_tax_shares : (s : Site) (n tau : ℕ) (r : Answer × Site) → set_vm_tax s n tau ≡ Ok r → Shares s r.1 None None None
unfolding set_vm_tax
set_vm_tax_shares s n tau r h =
    let own = of_vm (vm_at s n) _ r h in
    let v = own.vm in
    let pass = passed (tax_gate tau) _ r own.then in
    row_shares s n v (record v { spec = record v.spec { tau = Some tau } }) answers.Done r own.there refl pass.1

at_max_keeps : (vms : List (Option Vm)) (m : ℕ) → shared_in (get_or (map (option_map at_max) vms) m None) ≡ shared_in (get_or vms m None)
at_max_keeps [] m = refl
at_max_keeps (None ∷ vms) zero = refl
at_max_keeps (Some v ∷ vms) zero = refl
at_max_keeps (o ∷ vms) (suc m) = at_max_keeps vms m

targets_keep : (vms : List (Option Vm)) (targets : List ℕ) (m : ℕ) → shared_in (get_or (with_targets vms targets) m None) ≡ shared_in (get_or vms m None)
targets_keep [] targets m = refl
targets_keep (None ∷ vms) targets zero = refl
targets_keep (None ∷ vms) targets (suc m) = targets_keep vms targets m
targets_keep (Some v ∷ vms) [] zero = refl
targets_keep (Some v ∷ vms) [] (suc m) = targets_keep vms [] m
targets_keep (Some v ∷ vms) (t ∷ targets) zero = refl
targets_keep (Some v ∷ vms) (t ∷ targets) (suc m) = targets_keep vms targets m

share_out_shares : (c : Config) (s : Site) (r : Answer × Site) → share_out c s ≡ Ok r → Shares s r.1 None None None
share_out_shares c s r h =
    let t : Site = record s { vms = with_targets s.vms (targets_of (rows_of min_of s) (need c s)) } in
    let P : Site → Type 0 = λ t. Shares s t None None None in
    subst P (same_site _ t r h) (shares_same s t (targets_keep s.vms (targets_of (rows_of min_of s) (need c s))))

pub rebalance_shares : (c : Config) (s : Site) (level : Level) (r : Answer × Site) → rebalance c s level ≡ Ok r → Shares s r.1 None None None
unfolding rebalance
rebalance_shares c s High r h =
    let t : Site = record s { vms = map (option_map at_max) s.vms } in
    let P : Site → Type 0 = λ t. Shares s t None None None in
    subst P (same_site (answers.Rebalanced 0 0) t r h) (shares_same s t (at_max_keeps s.vms))
rebalance_shares c s Soft r h = share_out_shares c s r h
rebalance_shares c s Hard r h = share_out_shares c s r h
rebalance_shares c s Low r h = share_out_shares c s r h
