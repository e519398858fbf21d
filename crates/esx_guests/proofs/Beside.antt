-- A guest's run among the runs of others.
use Rattle.std.proofs.Common.{◌≡◌, ◌≢◌, ℕ, ◌<◌, Bool, true, false, ◌==◌, List, [], ◌∷◌, ◌++◌, refl, sym, ◌∙◌, subst, cond, Some, inl, inr}
use Rattle.std.specs.List.{AllByRecursion}
use Rattle.std.specs.Borrow.{Bor}
use Rattle.std.proofs.lemmas.Bool.{cases_eq, false≢true}
use Rattle.esx_types.specs.declared.config.Config.{Config}
use Rattle.esx_types.specs.declared.vm.VmState.TheVariants.{Running}
use Rattle.esx_events.specs.declared.event.Event.{Event}
use Rattle.esx_events.specs.declared.call.Call.{Call}
use Rattle.esx_events.specs.declared.call.Line.{Line}
use Rattle.esx_scenario.specs.declared.plan.TraceLine.{TraceLine}
use Rattle.esx_scenario.specs.declared.plan.TraceLine.TheVariants.{Read, Write, Ask, Lend, TakeBack}
use Rattle.esx_scenario.specs.Lines as lines
use Rattle.esx_door.specs.Own.{lines_of}
use Rattle.esx_workers.specs.declared.end.How.{How}
use Rattle.esx_workers.specs.declared.end.How.TheVariants.{Done}
use Rattle.esx_workers.specs.Starts.{guest_of}
use Rattle.esx_workers.specs.Runs.{Why}
use Rattle.esx_model.specs.declared.scene.Vm.{Vm}
use Rattle.esx_model.specs.Site.{vm_at}
use Rattle.esx_model.specs.History.{scene_at}
use Rattle.esx_model.specs.Console.{Session, history}
use Rattle.esx_model.specs.Alone.{alone}
use Rattle.esx_model.specs.Guests.{IsTrace, IsWithin, Stage, Send, Advise, Follow, IsAskedFor, left_of, stage_of, IsGuestRun, Leaves, DoesOrAsks, reads_answered, NeverFull}
use Rattle.esx_isolation.specs.Beside.{HasGuest}
use Rattle.esx_isolation.proofs.guest.Whole.{guest_alone, guest_whole}
use Rattle.esx_workers.specs.GuestRuns.{events_of, LeavesAlone}
use Rattle.esx_guests.specs.Runs.{HasRuns}
use Rattle.esx_model.proofs.Callers.{eqb_same, all_map}
use Rattle.esx_workers.proofs.Visits.{guest_runs, guest_goes_through}
use Rattle.esx_workers.proofs.Others.{others_leave}

-- Lines, caller by caller.

tail_of : (P : Line → Type 0) (x : Line) (xs : List Line) (b : Bool) → AllByRecursion P (cond b (x ∷ xs) xs) → AllByRecursion P xs
tail_of P x xs true h = h.1
tail_of P x xs false h = h

all_by_callers : (P : Line → Type 0) (callers : ℕ) (later : List Line) → AllByRecursion (λ x. x.caller < callers) later → ((j : ℕ) → j < callers → AllByRecursion P (lines_of j later)) → AllByRecursion P later
all_by_callers P callers [] below each = tt
all_by_callers P callers (x ∷ later) below each =
    let Q : Bool → Type 0 = λ b. AllByRecursion P (cond b (x ∷ lines_of x.caller later) (lines_of x.caller later)) in
    ((subst Q (eqb_same x.caller) (each x.caller below.0)).0, all_by_callers P callers later below.1 (λ j low. tail_of P x (lines_of j later) (x.caller == j) (each j low)))

own_apart : (R : Line → Type 0) (k : ℕ) (later : List Line) → AllByRecursion (λ x. (x.caller == k) ≡ false → R x) (lines_of k later)
own_apart R k [] = tt
own_apart R k (x ∷ later) = of (x.caller == k) refl (own_apart R k later)
  where
    of : (b : Bool) → (x.caller == k) ≡ b → AllByRecursion (λ y. (y.caller == k) ≡ false → R y) (lines_of k later) → AllByRecursion (λ y. (y.caller == k) ≡ false → R y) (cond b (x ∷ lines_of k later) (lines_of k later))
    of true e rest = (λ d. absurd (false≢true (sym d ∙ e)), rest)
    of false e rest = rest

-- what a guest's line is
own_does_one : (vm : ℕ) (e : Event) (g : Stage) (call : Call) → IsAskedFor vm e g call → DoesOrAsks call
own_does_one vm e Send call h = subst DoesOrAsks (sym h) tt
own_does_one vm e Advise call h = subst DoesOrAsks (sym h) tt
own_does_one vm e (Follow k) call h = subst DoesOrAsks (sym h.1) tt

own_does : (vm : ℕ) (xs : List Line) (left : List Event) (g : Stage) → IsGuestRun vm left g xs → AllByRecursion (λ x. DoesOrAsks x.call) xs
own_does vm [] left g run = tt
own_does vm (x ∷ xs) [] g run = absurd run.0
own_does vm (x ∷ xs) (e ∷ es) g run = (own_does_one vm e g x.call run.0, own_does vm xs (left_of (e ∷ es) g x.reply.said) (stage_of (e ∷ es) g x.reply.said) run.1)

-- The trace.

trace_is : (vm : ℕ) (ts : List TraceLine) → IsTrace vm (events_of vm ts)
trace_is vm [] = tt
trace_is vm (Read page at len ∷ ts) = (refl, trace_is vm ts)
trace_is vm (Write page at bytes ∷ ts) = (refl, trace_is vm ts)
trace_is vm (Ask ∷ ts) = (refl, trace_is vm ts)
trace_is vm (Lend page ∷ ts) = (refl, trace_is vm ts)
trace_is vm (TakeBack page ∷ ts) = (refl, trace_is vm ts)

within_is : (c : Config) (max vm : ℕ) (ts : List TraceLine) → AllByRecursion (lines.IsWithin c.page max) ts → AllByRecursion (IsWithin c max) (events_of vm ts)
within_is c max vm [] h = tt
within_is c max vm (Read page at len ∷ ts) h = (h.0, within_is c max vm ts h.1)
within_is c max vm (Write page at bytes ∷ ts) h = (h.0, within_is c max vm ts h.1)
within_is c max vm (Ask ∷ ts) h = (tt, within_is c max vm ts h.1)
within_is c max vm (Lend page ∷ ts) h = (tt, within_is c max vm ts h.1)
within_is c max vm (TakeBack page ∷ ts) h = (tt, within_is c max vm ts h.1)

-- The guest of a log of runs.

guest_in : (s : Session) (vm k callers : ℕ) (trace : Bor (List TraceLine)) → HasRuns s vm k callers trace → HasGuest s vm k (events_of vm trace.now)
guest_in s vm k callers trace r =
    let asked = guest_runs k vm trace r.rng (lines_of k r.later) r.own in
    let R : Line → Type 0 = λ x. Leaves vm x.call in
    let beside : (j : ℕ) → j < callers → j ≢ k → AllByRecursion (LeavesAlone vm) (lines_of j r.later) = λ j low other. (let w = r.others j low other in others_leave j vm w.0 (lines_of j r.later) w.1 w.2) in
    record {
      config = r.config;
      legal = r.legal;
      opening = r.opening;
      later = r.later;
      log = r.log;
      opens = r.opens;
      does = all_by_callers (λ x. DoesOrAsks x.call) callers r.later r.below (λ j low. elim (cases_eq j k) [
        | inl e ↦ (let P : ℕ → Type 0 = λ i. AllByRecursion (λ x. DoesOrAsks x.call) (lines_of i r.later) in subst P (sym e) (own_does vm (lines_of k r.later) (events_of vm trace.now) Send asked))
        | inr other ↦ all_map (LeavesAlone vm) (λ x. DoesOrAsks x.call) (λ x h. h.1) (lines_of j r.later) (beside j low other)
      ]);
      others = all_by_callers (λ x. (x.caller == k) ≡ false → Leaves vm x.call) callers r.later r.below (λ j low. elim (cases_eq j k) [
        | inl e ↦ (let P : ℕ → Type 0 = λ i. AllByRecursion (λ x. (x.caller == k) ≡ false → Leaves vm x.call) (lines_of i r.later) in subst P (sym e) (own_apart R k r.later))
        | inr other ↦ all_map (LeavesAlone vm) (λ x. (x.caller == k) ≡ false → Leaves vm x.call) (λ x h d. h.0) (lines_of j r.later) (beside j low other)
      ]);
      is_trace = trace_is vm trace.now;
      tidy = r.tidy;
      within = λ v there. within_is s.site v.spec.max vm trace.now (r.within v there);
      run = asked;
    }

pub runs_alone : (s : Session) (vm k callers : ℕ) (trace : Bor (List TraceLine)) (r : HasRuns s vm k callers trace) → (rest : List (List ℕ)) × (reads_answered (lines_of k r.later) ++ rest ≡ alone s.site (events_of vm trace.now))
unfolding guest_in
runs_alone s vm k callers trace r = guest_alone s vm k (events_of vm trace.now) (guest_in s vm k callers trace r)

pub runs_whole : (s : Session) (vm k callers : ℕ) (trace : Bor (List TraceLine)) (r : HasRuns s vm k callers trace) (how : How) (v : Vm) → Why (guest_of vm trace r.rng) (lines_of k r.later) how → how ≡ Done
    → vm_at (scene_at (history (record s { log = r.opening }))).site vm ≡ Some v → v.state ≡ Running → NeverFull (lines_of k r.later) → reads_answered (lines_of k r.later) ≡ alone s.site (events_of vm trace.now)
unfolding guest_in
runs_whole s vm k callers trace r how v why done there runs never =
    guest_whole s vm k (events_of vm trace.now) (guest_in s vm k callers trace r) v there runs never (guest_goes_through k vm trace r.rng how (lines_of k r.later) r.own why done)
