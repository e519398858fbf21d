-- What other workers ask leaves a guest's memory.
use Rattle.std.proofs.Common.{◌≡◌, ◌≢◌, ℕ, ◌+◌, Bool, true, false, ◌==◌, List, [], ◌∷◌, refl, sym, ◌∙◌, subst, arith, cond, Option, Some, None}
use Rattle.std.specs.Prelude.{slice_get}
use Rattle.std.specs.List.{AllByRecursion}
use Rattle.std.proofs.lemmas.Bool.Decides.{nat_tests}
use Rattle.rand_pcg.specs.Lcg.{Lcg}
use Rattle.esx_events.specs.declared.event.Event.TheVariants as events
use Rattle.esx_events.specs.declared.call.Call.{Call}
use Rattle.esx_events.specs.declared.call.Call.TheVariants as calls
use Rattle.esx_events.specs.declared.call.Line.{Line}
use Rattle.esx_events.specs.declared.call.Reply.{Reply}
use Rattle.esx_events.specs.declared.call.Help.{Help}
use Rattle.esx_events.specs.declared.call.Help.TheVariants as helps
use Rattle.esx_events.specs.declared.call.Said.{Said}
use Rattle.esx_events.specs.declared.call.Said.TheVariants as said
use Rattle.esx_scenario.specs.declared.plan.TraceLine.{TraceLine}
use Rattle.esx_scenario.specs.declared.plan.TraceLine.TheVariants.{Read, Write, Ask, Lend, TakeBack}
use Rattle.esx_workers.specs.declared.machine.Machine.{Machine}
use Rattle.esx_workers.specs.declared.visiting.GuestWorker.{GuestWorker}
use Rattle.esx_workers.specs.declared.visiting.Step.{Step}
use Rattle.esx_workers.specs.declared.visiting.Step.TheVariants as step
use Rattle.esx_workers.specs.declared.policing.PolicyWorker.{PolicyWorker}
use Rattle.esx_workers.specs.declared.worker.Worker.{Worker}
use Rattle.esx_workers.specs.declared.worker.Worker.TheVariants.{Guest, Sharer, Swapper, Policy}
use Rattle.esx_workers.specs.Machines.{drawn, after_drawn}
use Rattle.esx_workers.specs.Sharing.{scan_of}
use Rattle.esx_workers.specs.Swapping.{swap_of}
use Rattle.esx_workers.specs.Policing.{sample_of}
use Rattle.esx_workers.specs.Visiting.{event_of, call_at, call_at_line, sent_at, helped, advised, heard_at}
use Rattle.esx_workers.specs.Workers.{asks}
use Rattle.esx_workers.specs.Runs.{goes_on, AreAsked}
use Rattle.esx_model.specs.Guests.{Leaves, DoesOrAsks}
use Rattle.esx_workers.specs.GuestRuns.{IsOther, LeavesAlone}

abbrev Fine : ℕ → Call → Type 0
Fine n call = Leaves n call × DoesOrAsks call

some_call : (a b : Call) → Some a ≡ Some b → a ≡ b
some_call a b h = cc

fine_as : (n : ℕ) (a b : Call) → Some a ≡ Some b → Fine n a → Fine n b
fine_as n a b h fine = (let P : Call → Type 0 = Fine n in subst P (some_call a b h) fine)

other_name : (n m : ℕ) → m ≢ n → (m == n) ≡ true → ⊥
other_name n m h e = (let same : m ≡ n = grind (arith, nat_tests) in h same)

line_fine : (n vm : ℕ) (line : TraceLine) → vm ≢ n → Leaves n (calls.Do (event_of vm line))
line_fine n vm (Read page at len) other e = absurd (other_name n vm other e)
line_fine n vm (Write page at bytes) other e = absurd (other_name n vm other e)
line_fine n vm Ask other e = absurd (other_name n vm other e)
line_fine n vm (Lend page) other e = absurd (other_name n vm other e)
line_fine n vm (TakeBack page) other e = absurd (other_name n vm other e)

call_fine : (n vm : ℕ) (line : TraceLine) (st : Step) → vm ≢ n → Fine n (call_at vm line st)
call_fine n vm line step.Send other = (line_fine n vm line other, tt)
call_fine n vm line step.Advise other = (tt, tt)
call_fine n vm line (step.SwapOut of word) other = (λ e. refl, tt)
call_fine n vm line step.Rebalance other = (λ e. (let no = e in cc), tt)
call_fine n vm line (step.Replace word) other = (λ e. absurd (other_name n vm other e), tt)

guest_fine : (n vm : ℕ) (st : Step) (o : Option TraceLine) (call : Call) → vm ≢ n → call_at_line vm st o ≡ Some call → Fine n call
guest_fine n vm st None call other h = cc
guest_fine n vm st (Some line) call other h = fine_as n (call_at vm line st) call h (call_fine n vm line st other)

scan_fine : (n : ℕ) (g : Lcg) (o : Option Machine) (call : Call) → scan_of g o ≡ Some call → Fine n call
scan_fine n g None call h = cc
scan_fine n g (Some m) call h = fine_as n _ call h (λ e. refl, tt)

swap_fine : (n : ℕ) (g : Lcg) (o : Option Machine) (call : Call) → swap_of g o ≡ Some call → Fine n call
swap_fine n g None call h = cc
swap_fine n g (Some m) call h = fine_as n _ call h (λ e. refl, tt)

sample_fine : (n : ℕ) (w : PolicyWorker) (o : Option Machine) (call : Call) → Some (sample_of w o) ≡ Some call → Fine n call
sample_fine n w None call h = fine_as n (calls.Do events.Rebalance) call h (λ e. (let no = e in cc), tt)
sample_fine n w (Some m) call h = fine_as n _ call h (λ e. refl, tt)

asked_fine : (n : ℕ) (w : Worker) (call : Call) → IsOther n w → asks w ≡ Some call → Fine n call
asked_fine n (Guest g) call other h = guest_fine n g.vm g.step (slice_get g.trace.now g.next) call other h
asked_fine n (Sharer w) call other h = scan_fine n (after_drawn w.machines.now w.rng) (drawn w.machines.now w.rng) call h
asked_fine n (Swapper w) call other h = swap_fine n (after_drawn w.machines.now w.rng) (drawn w.machines.now w.rng) call h
asked_fine n (Policy w) call other h = sample_fine n w (slice_get w.machines.now w.next) call h

-- A guest keeps its machine.

sent_vm : (g : GuestWorker) (s : Said) (o : Option TraceLine) → (sent_at g s o).vm ≡ g.vm
sent_vm g s None = refl
sent_vm g s (Some line) = of _
  where
    of : (b : Bool) → (cond b (record g { step = step.Advise }) (record g { next = g.next + 1 })).vm ≡ g.vm
    of true = refl
    of false = refl

helped_vm : (g : GuestWorker) (h : Help) → (helped g h).vm ≡ g.vm
helped_vm g helps.Go = refl
helped_vm g (helps.SwapOut m) = refl
helped_vm g helps.Rebalance = refl
helped_vm g helps.Replace = refl

advised_vm : (g : GuestWorker) (s : Said) → (advised g s).vm ≡ g.vm
advised_vm g (said.Help h) = helped_vm g h
advised_vm g _ = refl

heard_vm : (g : GuestWorker) (st : Step) (s : Said) → (heard_at st g s).vm ≡ g.vm
heard_vm g step.Send s = sent_vm g s (slice_get g.trace.now g.next)
heard_vm g step.Advise s = advised_vm g s
heard_vm g (step.SwapOut of word) s = refl
heard_vm g step.Rebalance s = refl
heard_vm g (step.Replace word) s = refl

stays_other : (n : ℕ) (w : Worker) (reply : Reply) → IsOther n w → IsOther n (goes_on w reply)
stays_other n (Guest g) reply other = λ e. other (sym (heard_vm g g.step reply.said) ∙ e)
stays_other n (Sharer w) reply other = tt
stays_other n (Swapper w) reply other = tt
stays_other n (Policy w) reply other = tt

pub others_leave : (k n : ℕ) (w : Worker) (lines : List Line) → IsOther n w → AreAsked k w lines → AllByRecursion (LeavesAlone n) lines
unfolding AreAsked
others_leave k n w [] other are = tt
others_leave k n w (x ∷ xs) other are = (asked_fine n w x.call other are.1, others_leave k n (goes_on w x.reply) xs (stays_other n w x.reply other) are.2)
