-- The other events move no page.
use Rattle.std.proofs.Common.{◌≡◌, ℕ, suc, zero, ◌+◌, ◌-◌, Bool, not, nat_lt, List, [], ◌∷◌, length, map, get_or, replicate, set, refl, sym, ap, ◌∙◌, subst, Option, Some, None, Ok, is_some, inl, inr, true, false, ◌<◌}
use Rattle.std.specs.Option.{option_map}
use Rattle.std.proofs.lemmas.Bool.{cases_eq, cases_lt}
use Rattle.std.proofs.lemmas.List.{set_past, get_or-set_same, get_or-set_other}
use Rattle.esx_types.specs.declared.config.Config.{Config}
use Rattle.esx_types.specs.declared.level.Level.{Level}
use Rattle.esx_types.specs.declared.level.Level.TheVariants.{High, Soft, Hard, Low}
use Rattle.esx_types.specs.declared.vm.VmSpec.{VmSpec}
use Rattle.esx_types.specs.declared.vm.VmState.TheVariants.{Stopping}
use Rattle.esx_events.specs.declared.event.Answer.{Answer}
use Rattle.esx_events.specs.declared.event.Answer.TheVariants as answers
use Rattle.esx_events.specs.declared.event.Event.{Event}
use Rattle.esx_events.specs.declared.event.Event.TheVariants.{Admit, Start, Sample, Rebalance, SetShares, SetTax, SetVmTax, Stop, Gone}
use Rattle.esx_formulas.specs.Targets.{targets_of}
use Rattle.esx_model.specs.declared.scene.Place.{Place}
use Rattle.esx_model.specs.declared.scene.Place.TheVariants.{Untouched}
use Rattle.esx_model.specs.declared.scene.Vm.{Vm}
use Rattle.esx_model.specs.declared.scene.Site.{Site}
use Rattle.esx_model.specs.Site.{vm_at, with_vm, least_free}
use Rattle.esx_model.specs.event.Outcome.{standing}
use Rattle.esx_model.specs.event.Admission.{memory_with, swap_with, admit_gate, reserves_in, admitted, admit}
use Rattle.esx_model.specs.event.Starting.{start_gate, with_overhead, take_overhead, start}
use Rattle.esx_model.specs.event.Sampling.{sample_gate, opened_period, sample}
use Rattle.esx_model.specs.event.Rebalancing.{with_targets, at_max, rows_of, min_of, need, share_out, rebalance, shares_gate, set_shares, tax_gate, set_tax, set_vm_tax}
use Rattle.esx_model.specs.event.Leaving.{stop_gate, stop, gone_gate, without_last, gone}
use Rattle.esx_model.proofs.Callers.{of_vm, passed, accepted, chosen, some_below}
use Rattle.esx_story.specs.declared.change.Spot.{Spot}
use Rattle.esx_story.specs.declared.change.Spot.TheVariants as spots
use Rattle.esx_story.specs.Spots.{spot, spot_in, spot_of}
use Rattle.esx_story.proofs.event.Access.{outcome_is}
use Rattle.esx_passages.specs.Passages.{movers}
use Rattle.esx_passages.specs.Readings.{epoch_in, epoch_of, new_epoch}
use Rattle.esx_passages.proofs.Steady.{is_that, is_among, Steady, steady_row, Goes}

-- a machine changes in what is not its pages
row_goes : (e : Event) (s : Site) (found : Option (ℕ × ℕ)) (n : ℕ) (v w : Vm) (a : Answer) (r : Answer × Site) → new_epoch e a ≡ None → ((m p : ℕ) → is_that (movers e a found).first m p ≡ true → is_that (movers e a found).second m p ≡ false) → vm_at s n ≡ Some v → w.epoch ≡ v.epoch → w.places ≡ v.places → accepted a (with_vm s n w) ≡ Ok r → Goes e s found r
row_goes e s found n v w a r none apart there epoch places h =
    let P : (Answer × Site) → Type 0 = Goes e s found in
    subst P (outcome_is a (with_vm s n w) r h) (inl (record { none = none; steady = steady_row s n v w s.hints (is_among (movers e a found)) there epoch places; apart = apart }))

fresh : (k p : ℕ) → get_or (replicate k Untouched) p Untouched ≡ Untouched
fresh zero p = refl
fresh (suc k) zero = refl
fresh (suc k) (suc p) = fresh k p

nowhere : (o : Option Vm) (p : ℕ) → is_some o ≡ false → (spot_in o p ≡ spots.Untouched) × (epoch_in o ≡ 0)
nowhere None p h = (refl, refl)
nowhere (Some v) p h = cc

came_to : (s : Site) (n : ℕ) (spec : VmSpec) (moves : ℕ → ℕ → Bool) → is_some (vm_at s n) ≡ false → Steady s (with_vm s n (admitted spec)) moves
came_to s n spec moves none = elim (cases_lt n (length s.vms)) [
  | inl below ↦ record { spots = λ m p h. spot_below below m p; epochs = λ m. epoch_below below m }
  | inr beyond ↦ record {
    spots = λ m p h. ap (λ (vms : List (Option Vm)). spot_in (get_or vms m None) p) (set_past s.vms n (Some (admitted spec)) beyond);
    epochs = λ m. ap (λ (vms : List (Option Vm)). epoch_in (get_or vms m None)) (set_past s.vms n (Some (admitted spec)) beyond);
  }
]
  where
    t : Site
    t = with_vm s n (admitted spec)

    spot_below : (n < length s.vms) → (m p : ℕ) → spot_of t m p ≡ spot_of s m p
    spot_below below m p = elim (cases_eq m n) [
      | inl e ↦ ap (λ k. spot_of t k p) e ∙ ap (λ o. spot_in o p) (get_or-set_same s.vms n (Some (admitted spec)) None below) ∙ ap (spot 0) (fresh spec.max p)
          ∙ sym (nowhere (vm_at s n) p none).0 ∙ sym (ap (λ k. spot_of s k p) e)
      | inr other ↦ ap (λ o. spot_in o p) (get_or-set_other s.vms n m (Some (admitted spec)) None other)
    ]

    epoch_below : (n < length s.vms) → (m : ℕ) → epoch_of t m ≡ epoch_of s m
    epoch_below below m = elim (cases_eq m n) [
      | inl e ↦ ap (epoch_of t) e ∙ ap epoch_in (get_or-set_same s.vms n (Some (admitted spec)) None below) ∙ sym (nowhere (vm_at s n) 0 none).1 ∙ sym (ap (epoch_of s) e)
      | inr other ↦ ap epoch_in (get_or-set_other s.vms n m (Some (admitted spec)) None other)
    ]

pub admit_goes : (found : Option (ℕ × ℕ)) (c : Config) (s : Site) (n : ℕ) (spec : VmSpec) (r : Answer × Site) → admit c s n spec ≡ Ok r → Goes (Admit n spec) s found r
unfolding admit
admit_goes found c s n spec r h =
    let pass = passed (admit_gate c (is_some (vm_at s n)) spec (memory_with s spec) (swap_with s spec)) _ r h in
    let said : Answer = answers.Admitted (reserves_in c (memory_with s spec) (swap_with s spec)) in
    let P : (Answer × Site) → Type 0 = Goes (Admit n spec) s found in
    subst P (outcome_is said (with_vm s n (admitted spec)) r pass.1) (inl (record { none = refl; steady = came_to s n spec (is_among (movers (Admit n spec) said found)) pass.0.0; apart = λ m p no. cc }))

taken_goes : (found : Option (ℕ × ℕ)) (s : Site) (n : ℕ) (v : Vm) (o : Option ℕ) (r : Answer × Site) → vm_at s n ≡ Some v → take_overhead s n v o ≡ Ok r → Goes (Start n) s found r
taken_goes found s n v None r there h = cc
taken_goes found s n v (Some f) r there h =
    row_goes (Start n) s found n v (with_overhead v f) (answers.Started (not (nat_lt (length v.overhead + 1) v.spec.overhead)) f (length v.overhead + 1) v.spec.overhead) r refl (λ m p no. cc) there refl refl h

pub start_goes : (found : Option (ℕ × ℕ)) (c : Config) (s : Site) (n : ℕ) (r : Answer × Site) → start c s n ≡ Ok r → Goes (Start n) s found r
unfolding start
start_goes found c s n r h =
    let own = of_vm (vm_at s n) _ r h in
    let v = own.vm in
    let pass = passed (start_gate (standing v)) _ r own.then in
    taken_goes found s n v (least_free c.frames s) r own.there pass.1

pub sample_goes : (found : Option (ℕ × ℕ)) (s : Site) (n len : ℕ) (words : List ℕ) (r : Answer × Site) → sample s n len words ≡ Ok r → Goes (Sample n len words) s found r
unfolding sample
sample_goes found s n len words r h =
    let own = of_vm (vm_at s n) _ r h in
    let v = own.vm in
    let pass = passed (sample_gate (standing v) (length words) len (is_some v.period)) _ r own.then in
    row_goes (Sample n len words) s found n v (record v { period = Some (opened_period v.spec.max len words) }) (answers.Opened len (length words)) r refl (λ m p no. cc) own.there refl refl pass.1

pub set_shares_goes : (found : Option (ℕ × ℕ)) (s : Site) (n shares : ℕ) (r : Answer × Site) → set_shares s n shares ≡ Ok r → Goes (SetShares n shares) s found r
unfolding set_shares
set_shares_goes found s n shares r h =
    let own = of_vm (vm_at s n) _ r h in
    let v = own.vm in
    let pass = passed (shares_gate shares) _ r own.then in
    row_goes (SetShares n shares) s found n v (record v { spec = record v.spec { shares = shares } }) answers.Done r refl (λ m p no. cc) own.there refl refl pass.1

pub set_tax_goes : (found : Option (ℕ × ℕ)) (s : Site) (tau : ℕ) (r : Answer × Site) → set_tax s tau ≡ Ok r → Goes (SetTax tau) s found r
unfolding set_tax
set_tax_goes found s tau r h =
    let pass = passed (tax_gate tau) _ r h in
    let P : (Answer × Site) → Type 0 = Goes (SetTax tau) s found in
    subst P (outcome_is answers.Done (record s { tau = tau }) r pass.1) (inl (record { none = refl; steady = record { spots = λ m p h. refl; epochs = λ m. refl }; apart = λ m p no. cc }))

pub set_vm_tax_goes : (found : Option (ℕ × ℕ)) (s : Site) (n tau : ℕ) (r : Answer × Site) → set_vm_tax s n tau ≡ Ok r → Goes (SetVmTax n tau) s found r
unfolding set_vm_tax
set_vm_tax_goes found s n tau r h =
    let own = of_vm (vm_at s n) _ r h in
    let v = own.vm in
    let pass = passed (tax_gate tau) _ r own.then in
    row_goes (SetVmTax n tau) s found n v (record v { spec = record v.spec { tau = Some tau } }) answers.Done r refl (λ m p no. cc) own.there refl refl pass.1

pub stop_goes : (found : Option (ℕ × ℕ)) (s : Site) (n : ℕ) (r : Answer × Site) → stop s n ≡ Ok r → Goes (Stop n) s found r
unfolding stop
stop_goes found s n r h =
    let own = of_vm (vm_at s n) _ r h in
    let v = own.vm in
    let pass = passed (stop_gate (standing v)) _ r own.then in
    row_goes (Stop n) s found n v (record v { state = Stopping; period = None }) answers.Done r refl (λ m p no. cc) own.there refl refl pass.1

-- targets move no page

abbrev SameAt : List (Option Vm) → List (Option Vm) → ℕ → Type 0
SameAt us vms m = ((p : ℕ) → spot_in (get_or us m None) p ≡ spot_in (get_or vms m None) p) × (epoch_in (get_or us m None) ≡ epoch_in (get_or vms m None))

at_max_same : (vms : List (Option Vm)) (m : ℕ) → SameAt (map (option_map at_max) vms) vms m
at_max_same [] m = (λ p. refl, refl)
at_max_same (None ∷ vms) zero = (λ p. refl, refl)
at_max_same (Some v ∷ vms) zero = (λ p. refl, refl)
at_max_same (o ∷ vms) (suc m) = at_max_same vms m

targets_same : (vms : List (Option Vm)) (targets : List ℕ) (m : ℕ) → SameAt (with_targets vms targets) vms m
targets_same [] targets m = (λ p. refl, refl)
targets_same (None ∷ vms) targets zero = (λ p. refl, refl)
targets_same (None ∷ vms) targets (suc m) = targets_same vms targets m
targets_same (Some v ∷ vms) [] zero = (λ p. refl, refl)
targets_same (Some v ∷ vms) [] (suc m) = targets_same vms [] m
targets_same (Some v ∷ vms) (t ∷ targets) zero = (λ p. refl, refl)
targets_same (Some v ∷ vms) (t ∷ targets) (suc m) = targets_same vms targets m

vms_go : (found : Option (ℕ × ℕ)) (s : Site) (us : List (Option Vm)) (a : Answer) (r : Answer × Site) → new_epoch Rebalance a ≡ None → ((m : ℕ) → SameAt us s.vms m) → accepted a (record s { vms = us }) ≡ Ok r → Goes Rebalance s found r
vms_go found s us a r none same h =
    let P : (Answer × Site) → Type 0 = Goes Rebalance s found in
    subst P (outcome_is a (record s { vms = us }) r h) (inl (record { none = none; steady = record { spots = λ m p h. (same m).0 p; epochs = λ m. (same m).1 }; apart = λ m p no. cc }))

shared_out_goes : (found : Option (ℕ × ℕ)) (c : Config) (s : Site) (r : Answer × Site) → share_out c s ≡ Ok r → Goes Rebalance s found r
shared_out_goes found c s r h = vms_go found s (with_targets s.vms (targets_of (rows_of min_of s) (need c s))) _ r refl (targets_same s.vms (targets_of (rows_of min_of s) (need c s))) h

pub rebalance_goes : (found : Option (ℕ × ℕ)) (c : Config) (s : Site) (level : Level) (r : Answer × Site) → rebalance c s level ≡ Ok r → Goes Rebalance s found r
unfolding rebalance
rebalance_goes found c s High r h = vms_go found s (map (option_map at_max) s.vms) (answers.Rebalanced 0 0) r refl (at_max_same s.vms) h
rebalance_goes found c s Soft r h = shared_out_goes found c s r h
rebalance_goes found c s Hard r h = shared_out_goes found c s r h
rebalance_goes found c s Low r h = shared_out_goes found c s r h

pub gone_goes : (found : Option (ℕ × ℕ)) (s : Site) (n : ℕ) (r : Answer × Site) → gone s n ≡ Ok r → Goes (Gone n) s found r
unfolding gone
gone_goes found s n r h =
    let own = of_vm (vm_at s n) _ r h in
    let v = own.vm in
    let pass = passed (gone_gate (standing v)) _ r own.then in
    let w = without_last v in
    let none : Site = record s { vms = set s.vms n None } in
    let P : (Answer × Site) → Type 0 = Goes (Gone n) s found in
    elim (chosen (nat_lt 1 (length v.overhead)) (accepted (answers.GivenBack (length v.overhead - 1)) (with_vm s n w)) (accepted answers.Gone none) (Ok r) pass.1) [
      | inl k ↦ row_goes (Gone n) s found n v w (answers.GivenBack (length v.overhead - 1)) r refl (λ m p no. cc) own.there refl refl k.1
      | inr k ↦ subst P (outcome_is answers.Gone none r k.1)
          (inr (record {
            number = n;
            epoch = 0;
            told = refl;
            comes = ap epoch_in (get_or-set_same s.vms n None None (some_below s.vms n v own.there));
            others = λ m other. get_or-set_other s.vms n m None None other;
          }))
    ]
