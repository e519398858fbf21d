-- Sample periods keep a site sound.
use Rattle.std.proofs.Common.{◌≡◌, ℕ, ◌%◌, ◌≤◌, ◌<◌, Bool, true, false, nat_lt, List, [], ◌∷◌, ◌++◌, length, map, refl, arith, cond, Option, Some, None, Ok}
use Rattle.std.specs.List.{AllByRecursion}
use Rattle.std.specs.Prelude.{is_some}
use Rattle.std.proofs.lemmas.List.{length-map}
use Rattle.std.proofs.lemmas.List.Sums.{count_by-le-length}
use Rattle.std.proofs.lemmas.Bool.Decides.{nat_tests}
use Rattle.esx_types.specs.declared.config.Config.{Config}
use Rattle.esx_types.specs.declared.config.TheConstants.{MAX_LENGTH, MAX_SAMPLE}
use Rattle.esx_types.specs.declared.vm.VmState.TheVariants.{Running}
use Rattle.esx_events.specs.declared.event.Answer.{Answer}
use Rattle.esx_events.specs.declared.event.Answer.TheVariants as answers
use Rattle.esx_formulas.specs.declared.activity.Estimate.{Estimate}
use Rattle.esx_formulas.specs.declared.activity.Period.{Period}
use Rattle.esx_formulas.specs.Average.{is_touched, so_far}
use Rattle.esx_formulas.specs.Estimates.{IsEstimate}
use Rattle.esx_model.specs.declared.scene.Vm.{Vm}
use Rattle.esx_model.specs.declared.scene.Site.{Site}
use Rattle.esx_model.specs.Site.{vm_at, with_vm}
use Rattle.esx_model.specs.event.Outcome.{standing}
use Rattle.esx_model.specs.event.Sampling.{are_good_words, sample_gate, opened_period, sample, counted_in, counted}
use Rattle.esx_model.specs.sound.Machines.{IsVm, IsPeriod, IsPeriodOrNone}
use Rattle.esx_model.specs.sound.Sound.{IsSound}
use Rattle.esx_model.proofs.Lists.{all_append}
use Rattle.esx_model.proofs.Machines.{running_fits}
use Rattle.esx_model.proofs.Kept.{Becomes, row_only}
use Rattle.esx_model.proofs.Gates.{of_vm, passed, gives, not_not, runs}

-- a running machine whose periods are others
pub period_becomes : (c : Config) (v : Vm) (closed : List Estimate) (period : Option Period) → IsVm c v → v.state ≡ Running → AllByRecursion IsEstimate closed → IsPeriodOrNone v.spec.max period
    → Becomes c v (record v { closed = closed; period = period })
period_becomes c v closed period fine running estimates open_one = record {
  fine = record {
    good = fine.good;
    pages = fine.pages;
    least_target = fine.least_target;
    most_target = fine.most_target;
    state = running_fits v (record v { closed = closed; period = period }) running running refl refl fine.state;
    places = fine.places;
    out = fine.out;
    lends = fine.lends;
    closed = estimates;
    period = open_one;
  };
  memory = refl;
  swap = refl;
}

all_drawn : (max : ℕ) (words : List ℕ) → 1 ≤ max → AllByRecursion (λ page. page < max) (map (λ w. w % max) words)
all_drawn max [] h = tt
all_drawn max (w ∷ words) h = (omega arith, all_drawn max words h)

good_words : (count len : ℕ) → are_good_words count len ≡ true → (1 ≤ count) × (count ≤ MAX_SAMPLE) × (1 ≤ len) × (len ≤ MAX_LENGTH)
good_words count len h = (grind (arith, nat_tests), grind (arith, nat_tests), grind (arith, nat_tests), grind (arith, nat_tests))

opened_fits : (max len : ℕ) (words : List ℕ) → 1 ≤ max → are_good_words (length words) len ≡ true → IsPeriod max (opened_period max len words)
opened_fits max len words some h =
    let good = good_words (length words) len h in
    let drawn = length-map words (λ w. w % max) in
    record {
      most_length = good.3;
      open_still = good.2;
      least_pages = omega (arith, drawn, good.0);
      most_pages = omega (arith, drawn, good.1);
      pages = all_drawn max words some;
      accessed = tt;
    }

pub sample_sound : (c : Config) (s : Site) (n len : ℕ) (words : List ℕ) (r : Answer × Site) → IsSound c s → sample s n len words ≡ Ok r → IsSound c r.1
unfolding sample
sample_sound c s n len words r sound h =
    let m = of_vm (vm_at s n) _ r h in
    let v = m.vm in
    let pass = passed (sample_gate (standing v) (length words) len (is_some v.period)) _ r m.then in
    let running = runs v.state (not_not _ pass.0.0) in
    let fine = sound.each n v m.there in
    let some : 1 ≤ v.spec.max = omega (arith, fine.good.least_min, fine.good.min_max) in
    let w : Vm = record v { period = Some (opened_period v.spec.max len words) } in
    gives c (answers.Opened len (length words)) (with_vm s n w) r pass.1
    (row_only c s n v w sound m.there (period_becomes c v v.closed (Some (opened_period v.spec.max len words)) fine running fine.closed (opened_fits v.spec.max len words some (not_not _ pass.0.1.0))) refl refl)

-- a machine after one more access
pub record IsCounted (c : Config) (v w : Vm) : Type 0 where
  pub becomes : Becomes c v w
  pub places : w.places ≡ v.places
  pub overhead : w.overhead ≡ v.overhead

told_fits : (max : ℕ) (p : Period) → 1 ≤ length p.pages → length p.pages ≤ MAX_SAMPLE → IsEstimate (so_far p)
told_fits max p least most = record { touched = count_by-le-length (is_touched p) p.pages; least_pages = least; most_pages = most }

closed_or_open : (c : Config) (v : Vm) (p : Period) (page : ℕ) → IsVm c v → v.state ≡ Running → page < v.spec.max → IsPeriod v.spec.max p
    → (b : Bool) → nat_lt (length (p.accessed ++ page ∷ [])) p.length ≡ b
    → IsCounted c v (cond b (record v { period = Some (record p { accessed = p.accessed ++ page ∷ [] }) }) (record v { period = None; closed = v.closed ++ so_far (record p { accessed = p.accessed ++ page ∷ [] }) ∷ [] }))
closed_or_open c v p page fine running below period true e =
    let q : Period = record p { accessed = p.accessed ++ page ∷ [] } in
    let fits : IsPeriod v.spec.max q = record {
      most_length = period.most_length;
      open_still = grind (arith, nat_tests);
      least_pages = period.least_pages;
      most_pages = period.most_pages;
      pages = period.pages;
      accessed = all_append (λ page. page < v.spec.max) p.accessed (page ∷ []) period.accessed (below, tt);
    } in
    record { becomes = period_becomes c v v.closed (Some q) fine running fine.closed fits; places = refl; overhead = refl }
closed_or_open c v p page fine running below period false e =
    let q : Period = record p { accessed = p.accessed ++ page ∷ [] } in
    record {
      becomes = period_becomes c v (v.closed ++ so_far q ∷ []) None fine running (all_append IsEstimate v.closed (so_far q ∷ []) fine.closed (told_fits v.spec.max q period.least_pages period.most_pages, tt)) tt;
      places = refl;
      overhead = refl;
    }

counted_by : (c : Config) (v : Vm) (page : ℕ) (o : Option Period) → IsVm c v → v.state ≡ Running → page < v.spec.max → IsPeriodOrNone v.spec.max o → IsCounted c v (counted_in page v o)
counted_by c v page None fine running below period = record { becomes = record { fine = fine; memory = refl; swap = refl }; places = refl; overhead = refl }
counted_by c v page (Some p) fine running below period = closed_or_open c v p page fine running below period (nat_lt (length (p.accessed ++ page ∷ [])) p.length) refl

pub counted_kept : (c : Config) (v : Vm) (page : ℕ) → IsVm c v → v.state ≡ Running → page < v.spec.max → IsCounted c v (counted page v)
counted_kept c v page fine running below = counted_by c v page v.period fine running below fine.period
