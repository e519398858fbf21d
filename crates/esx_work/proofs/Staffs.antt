-- The workers of a scenario.
use Rattle.std.proofs.Common.{◌≡◌, ◌∙◌, ◌<◌, ◌≤◌, ◌+◌, ℕ, Bool, zero, suc, List, [], ◌∷◌, ◌++◌, length, map, take, get_or, slice_get, Some, None, All, refl, sym, ap, subst, ⊎_elim, arith}
use Rattle.std.proofs.lemmas.List.{map-append, take_all, take_more, length-map}
use Rattle.std.proofs.lemmas.List.Elements.{All-append, All-filter}
use Rattle.std.proofs.Math.ListN.{get_or-map}
use Rattle.std.proofs.lemmas.Option.{slice_get-map, slice_get_read, slice_get_cases, slice_get_within}
use Rattle.std.specs.Prelude.{option_map, ◌==◌}
use Rattle.std.specs.Borrow.{Bor}
use Rattle.esx_types.specs.declared.config.TheConstants.{VM_NUMBERS}
use Rattle.esx_events.specs.declared.call.Line.{Line}
use Rattle.esx_scenario.specs.declared.plan.Guest.{Guest}
use Rattle.esx_scenario.specs.declared.plan.Settings.{Settings}
use Rattle.esx_scenario.specs.Plans.{Plan, IsPlan, IsGuest}
use Rattle.esx_opening.specs.Orders.{of_number, below, in_order}
use Rattle.esx_workers.specs.declared.end.End.{End}
use Rattle.esx_workers.specs.declared.machine.Machine.{Machine}
use Rattle.esx_workers.specs.declared.worker.Worker.{Worker}
use Rattle.esx_workers.specs.declared.worker.Worker.TheVariants as workers
use Rattle.esx_workers.specs.Runs.{IsRun, IsGated}
use Rattle.esx_work.specs.Sites.{told_of, wanted_of, AreMachines, IsGuestAt, IsWorker, IsRunOf, IsGatedRunOf}

-- the machine behind a reference at a place
pub guest_at : (refs : List (Bor Guest)) (i : ℕ) (x : Bor Guest) → i < length refs → x ≡ get_or refs i x → slice_get (map (λ g. g.now) refs) i ≡ Some x.now
guest_at refs i x lt is = slice_get-map (λ (g : Bor Guest). g.now) refs i ∙ ap (option_map (λ (g : Bor Guest). g.now)) (slice_get_read refs (length refs) i x refl lt is)

-- one more machine
pub machine_more : (refs : List (Bor Guest)) (i : ℕ) (x : Bor Guest) (ms ms' : List Machine) (m : Machine) → i < length refs → x ≡ get_or refs i x → ms' ≡ ms ++ m ∷ [] → told_of m ≡ wanted_of x.now
    → map told_of ms ≡ map (λ g. wanted_of g.now) (take i refs) → map told_of ms' ≡ map (λ g. wanted_of g.now) (take (i + 1) refs)
machine_more refs i x ms ms' m lt is e told so_far =
    let wanted : Bor Guest → ℕ × ℕ = λ g. wanted_of g.now in
    ap (map told_of) e ∙ (map-append told_of ms (m ∷ []) ∙ (ap (λ (l : List (ℕ × ℕ)). l ++ told_of m ∷ []) so_far ∙ (ap (λ (t : ℕ × ℕ). map wanted (take i refs) ++ t ∷ []) (told ∙ ap wanted is)
    ∙ (sym (map-append wanted (take i refs) (get_or refs i x ∷ [])) ∙ ap (map wanted) (sym (take_more refs i x lt))))))

wanted_behind : (refs : List (Bor Guest)) → map (λ g. wanted_of g.now) refs ≡ map wanted_of (map (λ g. g.now) refs)
wanted_behind [] = refl
wanted_behind (x ∷ xs) = ap (λ (l : List (ℕ × ℕ)). wanted_of x.now ∷ l) (wanted_behind xs)

-- the machines are all there
pub machines_all : (refs : List (Bor Guest)) (i : ℕ) (ms : List Machine) → length refs ≤ i → map told_of ms ≡ map (λ g. wanted_of g.now) (take i refs) → AreMachines (map (λ g. g.now) refs) ms
machines_all refs i ms past so_far = so_far ∙ (ap (λ (l : List (Bor Guest)). map (λ (g : Bor Guest). wanted_of g.now) l) (take_all i refs past) ∙ wanted_behind refs)

-- a guest at its place is the worker at its place
pub guest_works : (s : Settings) (gs : List Guest) (ms : List Machine) (i : ℕ) (w : Worker) → IsGuestAt s.seed gs i w → IsWorker s gs ms i w
guest_works s gs ms i (workers.Guest w) is = is
guest_works s gs ms i (workers.Sharer w) is = absurd is
guest_works s gs ms i (workers.Swapper w) is = absurd is
guest_works s gs ms i (workers.Policy w) is = absurd is

all_below : (P : Guest → Type 0) (n : ℕ) (gs : List Guest) → All P gs → All P (below n gs)
unfolding below
all_below P zero gs all = λ k d lt. absurd (omega arith)
all_below P (suc n) gs all = All-append P (below n gs) (of_number gs n) (all_below P n gs all) (All-filter (λ (g : Guest). g.vm == n) P gs all)

-- each machine of a scenario has a page
pub all_some : (p : Plan) (refs : List (Bor Guest)) → IsPlan p → map (λ g. g.now) refs ≡ in_order p.guests → All (λ g. 0 < g.now.spec.max) refs
all_some p refs plan order k d lt =
    let few : k < length (map (λ (g : Bor Guest). g.now) refs) = subst (λ (n : ℕ). k < n) (sym (length-map refs (λ (g : Bor Guest). g.now))) lt in
    let good : IsGuest p.site (get_or (map (λ (g : Bor Guest). g.now) refs) k d.now) = subst (λ (l : List Guest). All (IsGuest p.site) l) (sym order) (all_below (IsGuest p.site) VM_NUMBERS p.guests plan.guests) k d.now few in
    let one : IsGuest p.site (get_or refs k d).now = subst (IsGuest p.site) (get_or-map (λ (g : Bor Guest). g.now) refs k d) good in
    some_pages one
  where
    some_pages : {g : Guest} → IsGuest p.site g → 0 < g.spec.max
    some_pages good = let spec = good.spec in omega arith

module _ {G : Type 0} (is_open : G → Type 0) (passes : G → ℕ → Bool → G → Type 0) (p : Plan) (s : Settings) (same : s ≡ p.settings) (gs : List Guest) (order : gs ≡ in_order p.guests) (ms : List Machine) (are : AreMachines gs ms)
    (staff : List Worker) (each : (i : ℕ) (w : Worker) → slice_get staff i ≡ Some w → IsWorker s gs ms i w) (gates : List G) (ends : List End) (many : length ends ≡ length staff) where
  worker_at : (k : ℕ) → k < length staff → (w : Worker) × (slice_get staff k ≡ Some w)
  worker_at k lt = ⊎_elim
      (λ (t : (x : Worker) × (k < length staff) × (slice_get staff k ≡ Some x) × (get_or staff k x ≡ x)). (t.0, t.2))
      (λ (t : (length staff ≤ k) × (slice_get staff k ≡ None)). let past : length staff ≤ k = t.0 in absurd (omega arith))
      (slice_get_cases staff k).1

  ended_worker : (k : ℕ) (e : End) → slice_get ends k ≡ Some e → (w : Worker) × (slice_get staff k ≡ Some w)
  ended_worker k e at =
      let within : k < length ends = slice_get_within ends k e at in
      let lt : k < length staff = omega arith in
      worker_at k lt

  ordered : AreMachines (in_order p.guests) ms
  ordered = subst (λ (l : List Guest). AreMachines l ms) order are

  is_worker : (k : ℕ) (w : Worker) → slice_get staff k ≡ Some w → IsWorker p.settings (in_order p.guests) ms k w
  is_worker k w at = subst (λ (t : Settings). IsWorker t (in_order p.guests) ms k w) same (subst (λ (l : List Guest). IsWorker s l ms k w) order (each k w at))

  pub run_of : (k : ℕ) (e : End) (lines : List Line) → slice_get ends k ≡ Some e → ((w : Worker) (y : G) → slice_get staff k ≡ Some w → slice_get gates k ≡ Some y → IsRun (is_open y) k w s.turns e lines)
      → (y : G) → slice_get gates k ≡ Some y → IsRunOf p (is_open y) k e lines
  run_of k e lines at run y y_at =
      let w = ended_worker k e at in record {
        machines = ms;
        are = ordered;
        worker = w.0;
        is = is_worker k w.0 w.1;
        run = subst (λ (t : Settings). IsRun (is_open y) k w.0 t.turns e lines) same (run w.0 y w.1 y_at);
      }

  pub gated_of : (after : List G) (k : ℕ) (e : End) (lines : List Line) → slice_get ends k ≡ Some e
      → ((w : Worker) (y z : G) → slice_get staff k ≡ Some w → slice_get gates k ≡ Some y → slice_get after k ≡ Some z → IsGated passes y z w s.turns e lines) → (y z : G) → slice_get gates k ≡ Some y → slice_get after k ≡ Some z → IsGatedRunOf p passes y z k e lines
  gated_of after k e lines at gated y z y_at z_at =
      let w = ended_worker k e at in record {
        machines = ms;
        are = ordered;
        worker = w.0;
        is = is_worker k w.0 w.1;
        gated = subst (λ (t : Settings). IsGated passes y z w.0 t.turns e lines) same (gated w.0 y z w.1 y_at z_at);
      }
