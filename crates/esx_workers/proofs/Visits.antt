-- What a guest's worker asks, as a guest run.
use Rattle.std.proofs.Common.{◌≡◌, ℕ, zero, suc, ◌+◌, Bool, true, false, ◌&&◌, List, [], ◌∷◌, drop, refl, sym, ap, ◌∙◌, subst, arith, cond, Option, Some, None, inl, inr}
use Rattle.std.specs.Prelude.{slice_get}
use Rattle.std.specs.Borrow.{Bor}
use Rattle.rand_pcg.specs.Lcg.{Lcg}
use Rattle.esx_events.specs.declared.event.Event.{Event}
use Rattle.esx_events.specs.declared.event.Event.TheVariants as events
use Rattle.esx_events.specs.declared.call.Call.{Call}
use Rattle.esx_events.specs.declared.call.Call.TheVariants as calls
use Rattle.esx_events.specs.declared.call.Help.{Help}
use Rattle.esx_events.specs.declared.call.Help.TheVariants as helps
use Rattle.esx_events.specs.declared.call.Line.{Line}
use Rattle.esx_events.specs.declared.call.Said.{Said}
use Rattle.esx_events.specs.declared.call.Said.TheVariants as said
use Rattle.esx_scenario.specs.declared.plan.TraceLine.{TraceLine}
use Rattle.esx_scenario.specs.declared.plan.TraceLine.TheVariants.{Read, Write, Ask, Lend, TakeBack}
use Rattle.esx_workers.specs.declared.end.End.{End}
use Rattle.esx_workers.specs.declared.end.How.{How}
use Rattle.esx_workers.specs.declared.end.How.TheVariants.{Done}
use Rattle.esx_workers.specs.declared.visiting.GuestWorker.{GuestWorker}
use Rattle.esx_workers.specs.declared.visiting.Step.{Step}
use Rattle.esx_workers.specs.declared.visiting.Step.TheVariants as step
use Rattle.esx_workers.specs.declared.worker.Worker.{Worker}
use Rattle.esx_workers.specs.declared.worker.Worker.TheVariants.{Guest}
use Rattle.esx_workers.specs.Draws.{word}
use Rattle.esx_workers.specs.Visiting.{event_of, page_of, is_access_line, call_at, call_at_line, sent_at, helped, advised, rest_at}
use Rattle.esx_workers.specs.Workers.{asks, rest}
use Rattle.esx_workers.specs.Starts.{guest_of}
use Rattle.esx_workers.specs.Runs.{goes_on, worker_after, AreAsked, Why, Ended, Broken}
use Rattle.esx_model.specs.Guests as guests
use Rattle.esx_model.specs.Guests.{is_wait, Stage, Send, Advise, Follow, IsAskedAt, waits, left_of, stage_of, stage_by, IsGuestRun, left_after}
use Rattle.esx_workers.specs.GuestRuns.{events_of, Visited}

abbrev stage : Step → Stage
stage step.Send = Send
stage step.Advise = Advise
stage (step.SwapOut of word) = Follow (helps.SwapOut of)
stage step.Rebalance = Follow helps.Rebalance
stage (step.Replace word) = Follow helps.Replace

-- The trace from a place on.

after_place : (lines : List TraceLine) (next : ℕ) (line : TraceLine) → slice_get lines next ≡ Some line → drop next lines ≡ line ∷ drop (next + 1) lines
after_place [] next line h = cc
after_place (l ∷ ls) zero line h = (let same : l ≡ line = cc in ap (λ x. x ∷ ls) same)
after_place (l ∷ ls) (suc next) line h = (let e : suc (next + 1) ≡ suc next + 1 = omega arith in after_place ls next line h ∙ ap (λ k. line ∷ drop k (l ∷ ls)) e)

no_place : (lines : List TraceLine) (next : ℕ) → slice_get lines next ≡ None → drop next lines ≡ []
no_place [] zero h = refl
no_place [] (suc next) h = refl
no_place (l ∷ ls) zero h = cc
no_place (l ∷ ls) (suc next) h = no_place ls next h

left_at : ℕ → List TraceLine → ℕ → List Event
left_at vm lines next = events_of vm (drop next lines)

left_here : (vm : ℕ) (lines : List TraceLine) (next : ℕ) (line : TraceLine) → slice_get lines next ≡ Some line → left_at vm lines next ≡ event_of vm line ∷ left_at vm lines (next + 1)
unfolding left_at
left_here vm lines next line h = ap (events_of vm) (after_place lines next line h)

-- The same tests.

access_same : (vm : ℕ) (line : TraceLine) → guests.is_access (event_of vm line) ≡ is_access_line line
access_same vm (Read page at len) = refl
access_same vm (Write page at bytes) = refl
access_same vm Ask = refl
access_same vm (Lend page) = refl
access_same vm (TakeBack page) = refl

page_same : (vm : ℕ) (line : TraceLine) → guests.page_of (event_of vm line) ≡ page_of line
page_same vm (Read page at len) = refl
page_same vm (Write page at bytes) = refl
page_same vm Ask = refl
page_same vm (Lend page) = refl
page_same vm (TakeBack page) = refl

waits_same : (vm : ℕ) (line : TraceLine) (s : Said) → waits (event_of vm line) s ≡ (is_access_line line && is_wait s)
waits_same vm line s = ap (λ b. b && is_wait s) (access_same vm line)

-- The call at a line.

some_call : (a b : Call) → Some a ≡ Some b → a ≡ b
some_call a b h = cc

asked_as : (vm : ℕ) (line : TraceLine) (st : Step) (call : Call) → call_at vm line st ≡ call → guests.IsAskedFor vm (event_of vm line) (stage st) call
asked_as vm line step.Send call h = sym h
asked_as vm line step.Advise call h = sym h ∙ ap (λ p. calls.Advise vm p) (sym (page_same vm line))
asked_as vm line (step.SwapOut of word) call h = (events.SwapOut of word, sym h, (word, refl))
asked_as vm line step.Rebalance call h = (events.Rebalance, sym h, refl)
asked_as vm line (step.Replace word) call h = (events.Replace vm (page_of line) word, sym h, (word, ap (λ p. events.Replace vm p word) (sym (page_same vm line))))

-- The worker after the reply.

-- the worker is at a place of its trace, and does what a stage is
record IsAt (vm : ℕ) (lines : List TraceLine) (left : List Event) (g : Stage) (w : Worker) : Type 0 where
  next : ℕ
  st : Step
  rng : Lcg
  trace : Bor (List TraceLine)
  same : trace.now ≡ lines
  is : w ≡ Guest (record { vm = vm; trace = trace; next = next; step = st; rng = rng })
  left_is : left ≡ left_at vm lines next
  stage_is : g ≡ stage st

help_stage : (h : Help) (g : GuestWorker) → stage (helped g h).step ≡ guests.followed h
help_stage helps.Go g = refl
help_stage (helps.SwapOut m) g = refl
help_stage helps.Rebalance g = refl
help_stage helps.Replace g = refl

help_vm : (h : Help) (g : GuestWorker) → (helped g h).vm ≡ g.vm
help_vm helps.Go g = refl
help_vm (helps.SwapOut m) g = refl
help_vm helps.Rebalance g = refl
help_vm helps.Replace g = refl

help_next : (h : Help) (g : GuestWorker) → (helped g h).next ≡ g.next
help_next helps.Go g = refl
help_next (helps.SwapOut m) g = refl
help_next helps.Rebalance g = refl
help_next helps.Replace g = refl

help_trace : (h : Help) (g : GuestWorker) → (helped g h).trace ≡ g.trace
help_trace helps.Go g = refl
help_trace (helps.SwapOut m) g = refl
help_trace helps.Rebalance g = refl
help_trace helps.Replace g = refl

-- what an advised guest keeps
record Advises (g : GuestWorker) (s : Said) (k : GuestWorker) : Type 0 where
  vm : k.vm ≡ g.vm
  next : k.next ≡ g.next
  trace : k.trace ≡ g.trace
  stage_is : stage k.step ≡ stage_by s

advises : (g : GuestWorker) (s : Said) → Advises g s (advised g s)
advises g (said.Help h) = record { vm = help_vm h g; next = help_next h g; trace = help_trace h g; stage_is = help_stage h g }
advises g _ = record { vm = refl; next = refl; trace = refl; stage_is = refl }

-- a worker with the same parts
by_parts : (g k : GuestWorker) → k.vm ≡ g.vm → k.next ≡ g.next → k.trace ≡ g.trace → Guest k ≡ Guest (record { vm = g.vm; trace = g.trace; next = g.next; step = k.step; rng = k.rng })
by_parts g k v n t = ap (λ x. Guest (record k { vm = x })) v ∙ ap (λ x. Guest (record k { vm = g.vm; next = x })) n ∙ ap (λ x. Guest (record k { vm = g.vm; next = g.next; trace = x })) t

heard_on : (vm : ℕ) (lines : List TraceLine) (line : TraceLine) (next : ℕ) (st : Step) (rng : Lcg) (trace : Bor (List TraceLine)) (x : Line) → trace.now ≡ lines → slice_get lines next ≡ Some line
    → IsAt vm lines (left_of (event_of vm line ∷ left_at vm lines (next + 1)) (stage st) x.reply.said) (stage_of (event_of vm line ∷ left_at vm lines (next + 1)) (stage st) x.reply.said)
    (goes_on (Guest (record { vm = vm; trace = trace; next = next; step = st; rng = rng })) x.reply)
heard_on vm lines line next step.Send rng trace x same here =
    let s = x.reply.said in
    let g : GuestWorker = record { vm = vm; trace = trace; next = next; step = step.Send; rng = rng } in
    let found : slice_get trace.now next ≡ Some line = ap (λ l. slice_get l next) same ∙ here in
    by_wait (waits (event_of vm line) s) refl (ap (λ o. Guest (sent_at g s o)) found)
  where
    by_wait : (b : Bool) → waits (event_of vm line) x.reply.said ≡ b
        → goes_on (Guest (record { vm = vm; trace = trace; next = next; step = step.Send; rng = rng })) x.reply ≡ Guest (sent_at (record { vm = vm; trace = trace; next = next; step = step.Send; rng = rng }) x.reply.said (Some line))
        → IsAt vm lines (cond (waits (event_of vm line) x.reply.said) (event_of vm line ∷ left_at vm lines (next + 1)) (left_at vm lines (next + 1))) (cond (waits (event_of vm line) x.reply.said) Advise Send)
        (goes_on (Guest (record { vm = vm; trace = trace; next = next; step = step.Send; rng = rng })) x.reply)
    by_wait true e is =
        let g : GuestWorker = record { vm = vm; trace = trace; next = next; step = step.Send; rng = rng } in
        let test : (is_access_line line && is_wait x.reply.said) ≡ true = sym (waits_same vm line x.reply.said) ∙ e in
        record {
          next = next;
          st = step.Advise;
          rng = rng;
          trace = trace;
          same = same;
          is = is ∙ ap (λ b. Guest (cond b (record g { step = step.Advise }) (record g { next = next + 1 }))) test;
          left_is = ap (λ b. cond b (event_of vm line ∷ left_at vm lines (next + 1)) (left_at vm lines (next + 1))) e ∙ sym (left_here vm lines next line here);
          stage_is = ap (λ b. cond b Advise Send) e;
        }
    by_wait false e is =
        let g : GuestWorker = record { vm = vm; trace = trace; next = next; step = step.Send; rng = rng } in
        let test : (is_access_line line && is_wait x.reply.said) ≡ false = sym (waits_same vm line x.reply.said) ∙ e in
        record {
          next = next + 1;
          st = step.Send;
          rng = rng;
          trace = trace;
          same = same;
          is = is ∙ ap (λ b. Guest (cond b (record g { step = step.Advise }) (record g { next = next + 1 }))) test;
          left_is = ap (λ b. cond b (event_of vm line ∷ left_at vm lines (next + 1)) (left_at vm lines (next + 1))) e;
          stage_is = ap (λ b. cond b Advise Send) e;
        }
heard_on vm lines line next step.Advise rng trace x same here =
    let g : GuestWorker = record { vm = vm; trace = trace; next = next; step = step.Advise; rng = rng } in
    let k = advised g x.reply.said in
    let a = advises g x.reply.said in
    record {
      next = next;
      st = k.step;
      rng = k.rng;
      trace = trace;
      same = same;
      is = by_parts g k a.vm a.next a.trace;
      left_is = sym (left_here vm lines next line here);
      stage_is = sym a.stage_is;
    }
heard_on vm lines line next (step.SwapOut of word) rng trace x same here = record { next = next; st = step.Send; rng = rng; trace = trace; same = same; is = refl; left_is = sym (left_here vm lines next line here); stage_is = refl }
heard_on vm lines line next step.Rebalance rng trace x same here = record { next = next; st = step.Send; rng = rng; trace = trace; same = same; is = refl; left_is = sym (left_here vm lines next line here); stage_is = refl }
heard_on vm lines line next (step.Replace word) rng trace x same here = record { next = next; st = step.Send; rng = rng; trace = trace; same = same; is = refl; left_is = sym (left_here vm lines next line here); stage_is = refl }

-- The whole run.

abbrev pub IsRunFrom : ℕ → List Event → Stage → Worker → List Line → Type 0
IsRunFrom vm left g w xs = IsGuestRun vm left g xs × (rest (worker_after w xs) ≡ Done → left_after left g xs ≡ [])

line_run : (k vm : ℕ) (lines : List TraceLine) (x : Line) (xs : List Line) (next : ℕ) (st : Step) (rng : Lcg) (trace : Bor (List TraceLine)) (o : Option TraceLine) → trace.now ≡ lines → slice_get lines next ≡ o
    → call_at_line vm st o ≡ Some x.call
    → ((left : List Event) (g : Stage) → IsAt vm lines left g (goes_on (Guest (record { vm = vm; trace = trace; next = next; step = st; rng = rng })) x.reply)
    → IsRunFrom vm left g (goes_on (Guest (record { vm = vm; trace = trace; next = next; step = st; rng = rng })) x.reply) xs)
    → IsGuestRun vm (left_at vm lines next) (stage st) (x ∷ xs)
    × (rest (worker_after (goes_on (Guest (record { vm = vm; trace = trace; next = next; step = st; rng = rng })) x.reply) xs) ≡ Done → left_after (left_at vm lines next) (stage st) (x ∷ xs) ≡ [])
line_run k vm lines x xs next st rng trace None same here asked go = cc
line_run k vm lines x xs next st rng trace (Some line) same here asked go =
    let e = event_of vm line in
    let es = left_at vm lines (next + 1) in
    let s = x.reply.said in
    let more = go (left_of (e ∷ es) (stage st) s) (stage_of (e ∷ es) (stage st) s) (heard_on vm lines line next st rng trace x same here) in
    let P : List Event → Type 0 = λ l. IsGuestRun vm l (stage st) (x ∷ xs) × (rest (worker_after (goes_on (Guest (record { vm = vm; trace = trace; next = next; step = st; rng = rng })) x.reply) xs) ≡ Done → left_after l (stage st) (x ∷ xs) ≡ []) in
    subst P (sym (left_here vm lines next line here)) ((asked_as vm line st x.call (some_call (call_at vm line st) x.call asked), more.0), more.1)

end_none : (o : Option TraceLine) → rest_at o ≡ Done → o ≡ None
end_none None h = refl
end_none (Some line) h = cc

run_from : (k vm : ℕ) (lines : List TraceLine) (xs : List Line) (left : List Event) (g : Stage) (w : Worker) → IsAt vm lines left g w → AreAsked k w xs → IsRunFrom vm left g w xs
unfolding worker_after AreAsked left_at
run_from k vm lines [] left g w at are = (
  tt,
  λ end. at.left_is ∙ ap (events_of vm) (no_place lines at.next (ap (λ l. slice_get l at.next) (sym at.same) ∙ end_none (slice_get at.trace.now at.next) (sym (ap rest at.is) ∙ end))),
)
run_from k vm lines (x ∷ xs) left g w at are =
    let start : Worker = Guest (record { vm = vm; trace = at.trace; next = at.next; step = at.st; rng = at.rng }) in
    let P : Worker → Type 0 = λ v. (asks v ≡ Some x.call) × AreAsked k (goes_on v x.reply) xs in
    let known = subst P at.is (are.1, are.2) in
    let asked : call_at_line vm at.st (slice_get lines at.next) ≡ Some x.call = ap (λ l. call_at_line vm at.st (slice_get l at.next)) (sym at.same) ∙ known.0 in
    let run = line_run k vm lines x xs at.next at.st at.rng at.trace (slice_get lines at.next) at.same refl asked (λ l s a. run_from k vm lines xs l s (goes_on start x.reply) a known.1) in
    let Q : Worker → Type 0 = λ v. IsGuestRun vm (left_at vm lines at.next) (stage at.st) (x ∷ xs) × (rest (worker_after (goes_on v x.reply) xs) ≡ Done → left_after (left_at vm lines at.next) (stage at.st) (x ∷ xs) ≡ []) in
    let R : List Event → Type 0 = λ l. IsGuestRun vm l (stage at.st) (x ∷ xs) × (rest (worker_after (goes_on w x.reply) xs) ≡ Done → left_after l (stage at.st) (x ∷ xs) ≡ []) in
    let S : Stage → Type 0 = λ s. IsGuestRun vm left s (x ∷ xs) × (rest (worker_after (goes_on w x.reply) xs) ≡ Done → left_after left s (x ∷ xs) ≡ []) in
    subst S (sym at.stage_is) (subst R (sym at.left_is) (subst Q (sym at.is) run))

not_rewound : (w : Worker) (xs : List Line) (how : How) → Why w xs how → how ≡ Done → rest (worker_after w xs) ≡ Done
not_rewound w xs how (inl r) e = (let no = sym r.1 ∙ e in cc)
not_rewound w xs how (inr s) e = sym s.1 ∙ e

-- the worker at its start
starts : (vm : ℕ) (trace : Bor (List TraceLine)) (rng : Lcg) → IsAt vm trace.now (events_of vm trace.now) Send (guest_of vm trace rng)
unfolding left_at
starts vm trace rng = record { next = 0; st = step.Send; rng = rng; trace = trace; same = refl; is = refl; left_is = refl; stage_is = refl }

pub guest_runs : (k vm : ℕ) (trace : Bor (List TraceLine)) (rng : Lcg) (xs : List Line) → AreAsked k (guest_of vm trace rng) xs → IsGuestRun vm (events_of vm trace.now) Send xs
guest_runs k vm trace rng xs are = (run_from k vm trace.now xs (events_of vm trace.now) Send (guest_of vm trace rng) (starts vm trace rng) are).0

pub guest_goes_through : (k vm : ℕ) (trace : Bor (List TraceLine)) (rng : Lcg) (how : How) (xs : List Line) → AreAsked k (guest_of vm trace rng) xs → Why (guest_of vm trace rng) xs how → how ≡ Done → left_after (events_of vm trace.now) Send xs ≡ []
guest_goes_through k vm trace rng how xs are why done =
    (run_from k vm trace.now xs (events_of vm trace.now) Send (guest_of vm trace rng) (starts vm trace rng) are).1 (not_rewound (guest_of vm trace rng) xs how why done)

-- what a guest's run says of its caller's lines
pub ended_visits : {let_through : Type 0} (k vm turns : ℕ) (trace : Bor (List TraceLine)) (rng : Lcg) (end : End) (before after : List Line) → Ended let_through k (guest_of vm trace rng) turns end before after → Visited vm trace.now (end.how ≡ Done) before after
ended_visits k vm turns trace rng end before after e = record {
  lines = e.lines;
  more = e.more;
  run = guest_runs k vm trace rng e.lines e.run.are;
  whole = guest_goes_through k vm trace rng end.how e.lines e.run.are e.run.why;
}

pub broken_visits : (k vm turns : ℕ) (trace : Bor (List TraceLine)) (rng : Lcg) (before after : List Line) → Broken k (guest_of vm trace rng) turns before after → Visited vm trace.now ⊥ before after
broken_visits k vm turns trace rng before after b = record { lines = b.lines; more = b.more; run = guest_runs k vm trace rng b.lines b.run.are; whole = λ no. absurd no }
