-- The guests of a run.
use Rattle.std.proofs.Common.{◌≡◌, ◌≢◌, ℕ, zero, suc, ◌<◌, List, [], ◌∷◌, length, refl, sym, ap, ◌∙◌, subst, arith, Some}
use Rattle.std.specs.Prelude.{slice_get}
use Rattle.std.specs.List.{AllByRecursion}
use Rattle.std.specs.Borrow.{Bor}
use Rattle.std.proofs.lemmas.List.Elements.{recursion_from_All}
use Rattle.rand_pcg.specs.Lcg.{Lcg}
use Rattle.esx_types.specs.declared.config.Config.{Config}
use Rattle.esx_types.specs.Ranges.{IsConfig}
use Rattle.esx_types.specs.declared.config.TheConstants.{VM_NUMBERS}
use Rattle.esx_events.specs.declared.call.Line.{Line}
use Rattle.esx_scenario.specs.declared.plan.Guest as scenario
use Rattle.esx_scenario.specs.declared.plan.Settings.{Settings}
use Rattle.esx_scenario.specs.declared.plan.TraceLine.{TraceLine}
use Rattle.esx_scenario.specs.Plans.{Plan, IsPlan, IsGuest, AreDistinct}
use Rattle.esx_scenario.specs.Lines.{IsWithin}
use Rattle.esx_door.specs.Own.{lines_of}
use Rattle.esx_model.specs.declared.scene.Vm.{Vm}
use Rattle.esx_model.specs.Site.{vm_at}
use Rattle.esx_model.specs.History.{scene_at}
use Rattle.esx_model.specs.Alone.{alone, IsTidy}
use Rattle.esx_model.specs.Console.{Session, IsLegal, history}
use Rattle.esx_console.specs.Calls.{opened_session}
use Rattle.esx_opening.specs.Orders.{in_order}
use Rattle.esx_opening.specs.Openings.{opening_events, AreAccepted}
use Rattle.esx_workers.specs.declared.end.End.{End}
use Rattle.esx_workers.specs.declared.machine.Machine.{Machine}
use Rattle.esx_workers.specs.declared.visiting.GuestWorker.{GuestWorker}
use Rattle.esx_workers.specs.declared.visiting.Step.TheVariants.{Send}
use Rattle.esx_workers.specs.declared.worker.Worker.{Worker}
use Rattle.esx_workers.specs.declared.worker.Worker.TheVariants.{Guest, Sharer, Swapper, Policy}
use Rattle.esx_workers.specs.Starts.{guest_of}
use Rattle.esx_workers.specs.Runs.{AreAsked, Why}
use Rattle.esx_lock.specs.Logs.{Callers}
use Rattle.esx_work.specs.Runs.{RunsOn}
use Rattle.esx_work.specs.Sites.{IsWorker, IsRunOf}
use Rattle.esx_model.specs.Guests as guests
use Rattle.esx_model.proofs.Callers.{some_same}
use Rattle.esx_workers.specs.GuestRuns.{events_of, IsOther}
use Rattle.esx_guests.specs.Runs.{HasRuns}
use Rattle.esx_guests.proofs.Beside.{runs_alone, runs_whole}
use Rattle.esx_guests.proofs.Ordered.{below_distinct, all_in_order, one_of, number_below, apart_at}
use Rattle.esx_guests.proofs.Opened.{opened_lines, IsOpen, opened_up}
use Rattle.esx_work.specs.Alone.{ReadsAlone, IsAloneAt}

callers_are : (n : ℕ) (xs : List Line) → Callers (λ k. k < n) xs → AllByRecursion (λ x. x.caller < n) xs
callers_are n [] h = tt
callers_are n (x ∷ xs) h = (h.0, callers_are n xs h.1)

place_below : {X : Type 0} (xs : List X) (k : ℕ) (x : X) → slice_get xs k ≡ Some x → k < length xs
place_below [] k x h = cc
place_below (y ∷ ys) zero x h = omega arith
place_below (y ∷ ys) (suc k) x h = (let rest = place_below ys k x h in omega arith)

some_at : {X : Type 0} (xs : List X) (k : ℕ) → k < length xs → (x : X) × (slice_get xs k ≡ Some x)
some_at [] k low = absurd (omega arith)
some_at (y ∷ ys) zero low = (y, refl)
some_at (y ∷ ys) (suc k) low = some_at ys k (omega arith)

abbrev session : Config → List Line → Session
session c log = record { site = c; log = log }

-- The worker at a guest's place.
record IsGuestOf (g : scenario.Guest) (w : Worker) : Type 0 where
  trace : Bor (List TraceLine)
  rng : Lcg
  told : trace.now ≡ g.trace
  is : w ≡ guest_of g.vm trace rng

by_parts : (w : GuestWorker) (vm : ℕ) → w.vm ≡ vm → w.next ≡ 0 → w.step ≡ Send → Guest w ≡ guest_of vm w.trace w.rng
by_parts w vm v n s = ap (λ x. Guest (record w { vm = x })) v ∙ ap (λ x. Guest (record w { vm = vm; next = x })) n ∙ ap (λ x. Guest (record w { vm = vm; next = 0; step = x })) s

guest_at : (s : Settings) (gs : List scenario.Guest) (machines : List Machine) (k : ℕ) (g : scenario.Guest) (w : Worker) → slice_get gs k ≡ Some g → IsWorker s gs machines k w → IsGuestOf g w
guest_at s gs machines k g (Guest w) at is =
    let same : is.0 ≡ g = some_same is.0 g (sym is.1 ∙ at) in
    record { trace = w.trace; rng = w.rng; told = is.3 ∙ ap (λ (x : scenario.Guest). x.trace) same; is = by_parts w g.vm (is.2 ∙ ap (λ (x : scenario.Guest). x.vm) same) is.4 is.5 }
guest_at s gs machines k g (Sharer w) at is = (let low = place_below gs k g at in let here = is.0 in absurd (omega (arith, low, here)))
guest_at s gs machines k g (Swapper w) at is = (let low = place_below gs k g at in let here = is.0 in absurd (omega (arith, low, here)))
guest_at s gs machines k g (Policy w) at is = (let low = place_below gs k g at in let here = is.0 in absurd (omega (arith, low, here)))

-- the worker at another place
other_at : (s : Settings) (gs : List scenario.Guest) (machines : List Machine) (j k : ℕ) (g : scenario.Guest) (w : Worker) → AreDistinct gs → slice_get gs k ≡ Some g → j ≢ k → IsWorker s gs machines j w → IsOther g.vm w
other_at s gs machines j k g (Guest w) d at other is = λ e. apart_at gs j k is.0 g d is.1 at other (sym is.2 ∙ e)
other_at s gs machines j k g (Sharer w) d at other is = tt
other_at s gs machines j k g (Swapper w) d at other is = tt
other_at s gs machines j k g (Policy w) d at other is = tt

-- A guest of the run.

module _ (p : Plan) (opened s : Session) (callers : ℕ) (ends : List End) (fine : IsPlan p) (legal : IsLegal s) (many : length ends ≡ callers) (accepted : AreAccepted (opening_events p.guests) (opened_session p.site) opened)
    (runs : RunsOn opened callers (λ k e lines. IsRunOf p ⊥ k e lines) ends s) where
  site_is : s.site ≡ p.site
  site_is = runs.site ∙ (opened_lines p.site (in_order p.guests) opened accepted).site

  distinct : AreDistinct (in_order p.guests)
  distinct = below_distinct p.guests VM_NUMBERS fine.distinct

  module _ (k : ℕ) (e : End) (g : scenario.Guest) (at : slice_get (in_order p.guests) k ≡ Some g) (ended : slice_get ends k ≡ Some e) (tidy : IsTidy p.site (events_of g.vm g.trace)) where
    guest_fine : IsGuest p.site g
    guest_fine = one_of (IsGuest p.site) (in_order p.guests) k g (all_in_order (IsGuest p.site) p.guests VM_NUMBERS (recursion_from_All (IsGuest p.site) p.guests fine.guests)) at

    open_is : IsOpen opened g.vm g.spec.max
    open_is = opened_up p.site (in_order p.guests) k g opened fine.site distinct at (number_below p.guests VM_NUMBERS k g at) guest_fine.spec.least_overhead accepted

    own_run : IsRunOf p ⊥ k e (lines_of k runs.later)
    own_run = runs.runs k e ended

    own_guest : IsGuestOf g own_run.worker
    own_guest = guest_at p.settings (in_order p.guests) own_run.machines k g own_run.worker at own_run.is

    trace_is : events_of g.vm own_guest.trace.now ≡ events_of g.vm g.trace
    trace_is = ap (events_of g.vm) own_guest.told

    worker_of : (j : ℕ) → j < callers → (w : Worker) × (machines : List Machine) × IsWorker p.settings (in_order p.guests) machines j w × AreAsked j w (lines_of j runs.later)
    worker_of j low =
        let x = some_at ends j (omega (arith, low, many)) in
        let r = runs.runs j x.0 x.1 in
        (r.worker, r.machines, r.is, r.run.are)

    has_runs : HasRuns s g.vm k callers own_guest.trace
    has_runs =
        let P : Worker → Type 0 = λ w. AreAsked k w (lines_of k runs.later) in
        let lines = opened_lines p.site (in_order p.guests) opened accepted in
        let Q : List Line → Type 0 = AllByRecursion (λ x. guests.Opens x.call) in
        let R : Config → Type 0 = λ c. IsTidy c (events_of g.vm own_guest.trace.now) in
        record {
          config = subst IsConfig (sym site_is) fine.site;
          legal = legal;
          opening = opened.log;
          later = runs.later;
          log = sym runs.log;
          opens = subst Q lines.log lines.opens;
          below = callers_are callers runs.later runs.below;
          rng = own_guest.rng;
          own = subst P own_guest.is own_run.run.are;
          others = λ j low other. (let w = worker_of j low in (w.0, other_at p.settings (in_order p.guests) w.1 j k g w.0 distinct at other w.2, w.3));
          tidy = subst R (sym site_is) (subst (λ t. IsTidy p.site t) (sym trace_is) tidy);
          within = λ v there. within_by v there;
        }
      where
        opening_session : session s.site opened.log ≡ opened
        opening_session = ap (λ c. session c opened.log) runs.site

        within_by : (v : Vm) → vm_at (scene_at (history (record s { log = opened.log }))).site g.vm ≡ Some v → AllByRecursion (IsWithin s.site.page v.spec.max) own_guest.trace.now
        within_by v there =
            let here : vm_at (scene_at (history opened)).site g.vm ≡ Some v = ap (λ x. vm_at (scene_at (history x)).site g.vm) (sym opening_session) ∙ there in
            let same = some_same open_is.vm v (sym open_is.there ∙ here) in
            let size : v.spec.max ≡ g.spec.max = ap (λ (x : Vm). x.spec.max) (sym same) ∙ open_is.size in
            let all = recursion_from_All (IsWithin p.site.page g.spec.max) g.trace guest_fine.within in
            subst (λ t. AllByRecursion (IsWithin s.site.page v.spec.max) t) (sym own_guest.told)
            (subst (λ n. AllByRecursion (IsWithin s.site.page n) g.trace) (sym size) (subst (λ (c : Config). AllByRecursion (IsWithin c.page g.spec.max) g.trace) (sym site_is) all))

    reads : ReadsAlone p.site (events_of g.vm g.trace) e (lines_of k runs.later)
    unfolding has_runs
    reads =
        let first = runs_alone s g.vm k callers own_guest.trace has_runs in
        let alone_is : alone s.site (events_of g.vm own_guest.trace.now) ≡ alone p.site (events_of g.vm g.trace) = ap (λ c. alone c (events_of g.vm own_guest.trace.now)) site_is ∙ ap (alone p.site) trace_is in
        let W : Worker → Type 0 = λ w. Why w (lines_of k runs.later) e.how in
        let why : Why (guest_of g.vm own_guest.trace own_guest.rng) (lines_of k runs.later) e.how = subst W own_guest.is own_run.run.why in
        let start : vm_at (scene_at (history (session s.site opened.log))).site g.vm ≡ Some open_is.vm = ap (λ c. vm_at (scene_at (history (session c opened.log))).site g.vm) runs.site ∙ open_is.there in
        record {
          prefix = (first.0, first.1 ∙ alone_is);
          whole = λ done never. runs_whole s g.vm k callers own_guest.trace has_runs e.how open_is.vm why done start open_is.up never ∙ alone_is;
        }

  every : RunsOn opened callers (λ k e lines. IsAloneAt p k e lines) ends s
  every = record { site = runs.site; later = runs.later; log = runs.log; below = runs.below; runs = λ k e ended g at tidy. reads k e g at ended tidy }

pub guests_alone : (p : Plan) (opened s : Session) (callers : ℕ) (ends : List End) → IsPlan p → IsLegal s → length ends ≡ callers → AreAccepted (opening_events p.guests) (opened_session p.site) opened
    → RunsOn opened callers (λ k e lines. IsRunOf p ⊥ k e lines) ends s → RunsOn opened callers (λ k e lines. IsAloneAt p k e lines) ends s
guests_alone p opened s callers ends fine legal many accepted runs = every p opened s callers ends fine legal many accepted runs

-- whatever a gate let through
closed : {X : Type 0} (p : Plan) (k : ℕ) (e : End) (lines : List Line) → IsRunOf p X k e lines → IsRunOf p ⊥ k e lines
closed p k e lines r = record {
  machines = r.machines;
  are = r.are;
  worker = r.worker;
  is = r.is;
  run = record { are = r.run.are; most = r.run.most; passed = r.run.passed; why = r.run.why; all = λ z. absurd z };
}

pub ungated : {G : Type 0} (is_open : G → Type 0) (p : Plan) (opened s : Session) (callers : ℕ) (gates : List G) (ends : List End) → length gates ≡ callers → length ends ≡ callers
    → RunsOn opened callers (λ k e lines. (y : G) → slice_get gates k ≡ Some y → IsRunOf p (is_open y) k e lines) ends s → RunsOn opened callers (λ k e lines. IsRunOf p ⊥ k e lines) ends s
ungated is_open p opened s callers gates ends many all runs = record {
  site = runs.site;
  later = runs.later;
  log = runs.log;
  below = runs.below;
  runs = λ k e at. (let low = place_below ends k e at in let y = some_at gates k (omega (arith, low, many, all)) in closed p k e (lines_of k runs.later) (runs.runs k e at y.0 y.1));
}
