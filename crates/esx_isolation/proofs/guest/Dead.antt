-- Where no node numbers are left, or the machine does not run, no read of the guest is accepted any more.
use Rattle.std.proofs.Common.{◌≡◌, ℕ, Bool, true, false, ◌==◌, List, [], ◌∷◌, refl, sym, ap, ◌∙◌, subst, cond, Option, Some, Ok, ◌⊎◌, inl, inr}
use Rattle.std.specs.List.{AllByRecursion}
use Rattle.esx_types.specs.declared.config.Config.{Config}
use Rattle.esx_types.specs.declared.vm.VmState.TheVariants.{Running}
use Rattle.esx_events.specs.declared.event.Event.{Event}
use Rattle.esx_events.specs.declared.event.Event.TheVariants.{Read, Write, Ask, Lend, TakeBack}
use Rattle.esx_events.specs.declared.event.Answer.{Answer}
use Rattle.esx_events.specs.declared.event.Refusal.{Refusal}
use Rattle.esx_events.specs.declared.event.Refusal.TheVariants.{Full}
use Rattle.esx_events.specs.declared.call.Call.{Call}
use Rattle.esx_events.specs.declared.call.Call.TheVariants as calls
use Rattle.esx_events.specs.declared.call.Help.{Help}
use Rattle.esx_events.specs.declared.call.Help.TheVariants as helps
use Rattle.esx_events.specs.declared.call.Line.{Line}
use Rattle.esx_events.specs.declared.call.Reply.{Reply}
use Rattle.esx_events.specs.declared.call.Said.{Said}
use Rattle.esx_events.specs.declared.call.Said.TheVariants as said
use Rattle.esx_model.specs.declared.scene.Scene.{Scene}
use Rattle.esx_model.specs.History.{History}
use Rattle.esx_model.specs.Replay.{next}
use Rattle.esx_model.specs.Advice.{IsNamedBy}
use Rattle.esx_model.specs.Console.{outcome, after, AreReplies}
use Rattle.esx_model.specs.sound.Sound.{IsSound}
use Rattle.esx_model.specs.Memory.{Memory, memory_of, memory_at, own, names, is_left_out, memory_after}
use Rattle.esx_model.specs.Guests.{IsTraceEvent, IsTrace, Stage, Send, Advise, Follow, IsAskedAt, page_of, waits, left_of, stage_of, IsGuestRun, read_answer, call_answer, reads_answered, DoesOrAsks, Leaves, lines_by}
use Rattle.esx_isolation.proofs.Turns.{memory_there}
use Rattle.esx_model.proofs.Callers.{every_event_sound}
use Rattle.esx_isolation.proofs.Every.{every_event_turns, memory_below, left_out}
use Rattle.esx_isolation.proofs.guest.Histories.{Stands, IsFull, Refuses, Accepts, hear, full_stays, done_stands, IsAsk, Kind, Does, Asks, kind_of, refused_silent}
use Rattle.esx_isolation.proofs.guest.Up.{NeedsUp, accepted_up}

-- the machine, if it is there, does not run
abbrev pub IsDown : Option Memory → Type 0
IsDown o = (x : Memory) → o ≡ Some x → x.state ≡ Running → ⊥

-- An event leaves a machine's memory.
abbrev pub LeavesOne : ℕ → Event → Type 0
LeavesOne n e = names n e ≡ true → is_left_out e ≡ true

leaves_by : (c : Config) (n : ℕ) (e : Event) (o : Option Memory) (b : Bool) → names n e ≡ b → LeavesOne n e → cond b (own c e o) o ≡ o
leaves_by c n e o true k leaves = left_out c e o (leaves k)
leaves_by c n e o false k leaves = refl

pub leaves_memory : (c : Config) (n : ℕ) (e : Event) (o : Option Memory) → LeavesOne n e → memory_after c n e o ≡ o
unfolding memory_after
leaves_memory c n e o leaves = leaves_by c n e o (names n e) refl leaves

-- the memory after an accepted event, where the machine is there
pub after_event : (c : Config) (t : Scene) (e : Event) (r : Answer × Scene) (n : ℕ) (x : Memory) → IsSound c t.site → next c t e ≡ Ok r → memory_at c r.1.site n ≡ Some x → memory_after c n e (memory_at c t.site n) ≡ Some x
after_event c t e r n x sound goes h =
    sym (every_event_turns c t e r n sound (memory_below c r.1.site n x (every_event_sound c t e r sound goes) h) goes) ∙ h

pub down_after : (c : Config) (t : Scene) (e : Event) (r : Answer × Scene) (n : ℕ) → IsSound c t.site → next c t e ≡ Ok r → LeavesOne n e → IsDown (memory_at c t.site n) → IsDown (memory_at c r.1.site n)
down_after c t e r n sound goes leaves down x h up = down x (sym (leaves_memory c n e (memory_at c t.site n) leaves) ∙ after_event c t e r n x sound goes h) up

not_up : (c : Config) (t : Scene) (e : Event) (r : Answer × Scene) (n : ℕ) → NeedsUp n e → next c t e ≡ Ok r → IsDown (memory_at c t.site n) → ⊥
not_up c t e r n needs goes down = (let up = accepted_up c t n e r needs goes in down (memory_of c up.vm) (memory_there c t.site n up.vm up.there) up.runs)

pub trace_needs : (n : ℕ) (e : Event) → IsTraceEvent n e → NeedsUp n e
trace_needs n (Read vm page at len) is = is
trace_needs n (Write vm page at new) is = is
trace_needs n (Ask vm) is = is
trace_needs n (Lend vm page) is = is
trace_needs n (TakeBack vm page) is = is
trace_needs n _ is = absurd is

-- what is left of a trace is a trace
pub trace_left : (P : Event → Type 0) (left : List Event) (stage : Stage) (s : Said) → AllByRecursion P left → AllByRecursion P (left_of left stage s)
trace_left P [] stage s h = tt
trace_left P (e ∷ es) Send s h = of (waits e s)
  where
    of : (b : Bool) → AllByRecursion P (cond b (e ∷ es) es)
    of true = h
    of false = h.1
trace_left P (e ∷ es) Advise s h = h
trace_left P (e ∷ es) (Follow k) s h = h

-- an event that is advised is no read
pub named_silent : (n page : ℕ) (h : Help) (f : Event) (s : Said) (later : List (List ℕ)) → IsNamedBy n page h f → read_answer f s later ≡ later
named_silent n page helps.Go f s later k = absurd k
named_silent n page (helps.SwapOut m) f s later k = ap (λ e. read_answer e s later) k.1
named_silent n page helps.Rebalance f s later k = ap (λ e. read_answer e s later) k
named_silent n page helps.Replace f s later k = ap (λ e. read_answer e s later) k.1

-- What stays so: the log is full, or the machine is down.
pub data IsDead (c : Config) (h : History) (n : ℕ) : Type 0 where
  NoRoom : IsFull h → IsDead c h n
  Down : (t : Scene) → Stands c h t → IsDown (memory_at c t.site n) → IsDead c h n

-- a line that leaves it so, and tells nothing that was read
record Passes (c : Config) (h : History) (n : ℕ) (call : Call) (s : Said) : Type 0 where
  dead : IsDead c (after h call) n
  silent : (later : List (List ℕ)) → call_answer call s later ≡ later

-- an event that would raise the machine, or leaves it
abbrev MayPass : ℕ → Event → Type 0
MayPass n e = NeedsUp n e ⊎ (LeavesOne n e × ((s : Said) (later : List (List ℕ)) → read_answer e s later ≡ later))

passes_refused : (c : Config) (h : History) (n : ℕ) (e : Event) (r : Refusal) → IsDead c h n → after h (calls.Do e) ≡ h → (outcome h (calls.Do e)).0 ≡ said.Refused r → Passes c h n (calls.Do e) (outcome h (calls.Do e)).0
passes_refused c h n e r dead stays told =
    let P : History → Type 0 = λ x. IsDead c x n in
    record { dead = subst P (sym stays) dead; silent = λ later. ap (λ s. read_answer e s later) told ∙ refused_silent e r later }

passes_heard : (c : Config) (h : History) (t : Scene) (n : ℕ) (e : Event) → Stands c h t → IsDown (memory_at c t.site n) → MayPass n e → Refuses c h t e ⊎ Accepts c h t e → Passes c h n (calls.Do e) (outcome h (calls.Do e)).0
passes_heard c h t n e stands down may (inl r) = passes_refused c h n e r.refusal (Down t stands down) r.stays r.told
passes_heard c h t n e stands down (inl needs) (inr a) = absurd (not_up c t e (a.answer, a.scene) n needs a.is down)
passes_heard c h t n e stands down (inr leaves) (inr a) =
    let P : History → Type 0 = λ x. IsDead c x n in
    record {
      dead = subst P (sym a.goes) (Down a.scene (done_stands c e h t a.scene a.answer stands a.is) (down_after c t e (a.answer, a.scene) n stands.sound a.is leaves.0 down));
      silent = λ later. leaves.1 (outcome h (calls.Do e)).0 later;
    }

passes_event : (c : Config) (h : History) (n : ℕ) (e : Event) → IsDead c h n → MayPass n e → Passes c h n (calls.Do e) (outcome h (calls.Do e)).0
passes_event c h n e (NoRoom full) may = (let f = full_stays h e full in passes_refused c h n e Full (NoRoom full) f.0 f.1)
passes_event c h n e (Down t stands down) may = passes_heard c h t n e stands down may (hear c h t e stands)

passes_ask : (c : Config) (h : History) (n : ℕ) (call : Call) (s : Said) → IsDead c h n → IsAsk call → Passes c h n call s
passes_ask c h n call s dead ask = (let P : History → Type 0 = λ x. IsDead c x n in record { dead = subst P (sym (ask.stays h)) dead; silent = λ later. ask.silent s later })

-- the same, of a line as it stands
passes_as : (c : Config) (h : History) (n : ℕ) (call : Call) (e : Event) (s : Said) → call ≡ calls.Do e → s ≡ (outcome h call).0 → IsDead c h n → MayPass n e → Passes c h n call s
passes_as c h n call e s is told dead may =
    let P : Call → Type 0 = λ x. Passes c h n x (outcome h x).0 in
    let Q : Said → Type 0 = Passes c h n call in
    subst Q (sym told) (subst P (sym is) (passes_event c h n e dead may))

named_may : (n page : ℕ) (h : Help) (f : Event) → IsNamedBy n page h f → MayPass n f
named_may n page helps.Go f k = absurd k
named_may n page (helps.SwapOut m) f k = (let P : Event → Type 0 = MayPass n in subst P (sym k.1) (inr (λ d. refl, λ s later. refl)))
named_may n page helps.Rebalance f k = (let P : Event → Type 0 = MayPass n in subst P (sym k) (inr (λ d. (let no = d in cc), λ s later. refl)))
named_may n page helps.Replace f k = (let P : Event → Type 0 = MayPass n in subst P (sym k.1) (inl refl))

-- a line of the guest
passes_own : (c : Config) (h : History) (n : ℕ) (left : List Event) (stage : Stage) (call : Call) (s : Said) → s ≡ (outcome h call).0 → IsDead c h n → DoesOrAsks call → IsTrace n left → IsAskedAt n left stage call → Passes c h n call s
passes_own c h n [] stage call s told dead does trace asked = absurd asked
passes_own c h n (e ∷ es) Send call s told dead does trace asked = passes_as c h n call e s asked told dead (inl (trace_needs n e trace.0))
passes_own c h n (e ∷ es) Advise call s told dead does trace asked =
    let P : Call → Type 0 = λ x. Passes c h n x s in
    let ask : IsAsk (calls.Advise n (page_of e)) = asks_of (calls.Advise n (page_of e)) (kind_of (calls.Advise n (page_of e)) tt) refl in
    subst P (sym asked) (passes_ask c h n (calls.Advise n (page_of e)) s dead ask)
  where
    asks_of : (call : Call) → Kind call → call ≡ calls.Advise n (page_of e) → IsAsk call
    asks_of call (Does f is) k = (let no = sym is ∙ k in cc)
    asks_of call (Asks a) k = a
passes_own c h n (e ∷ es) (Follow k) call s told dead does trace asked = passes_as c h n call asked.0 s asked.1 told dead (named_may n (page_of e) k asked.0 asked.2)

-- a line of another
passes_other : (c : Config) (h : History) (n : ℕ) (call : Call) → IsDead c h n → Leaves n call → Kind call → IsDead c (after h call) n
passes_other c h n call dead leaves (Asks a) = (passes_ask c h n call (outcome h call).0 dead a).dead
passes_other c h n call dead leaves (Does e is) =
    let P : Call → Type 0 = λ x. IsDead c (after h x) n in
    let Q : Call → Type 0 = Leaves n in
    subst P (sym is) (other c h n e dead (subst Q is leaves))
  where
    heard : (c : Config) (h : History) (t : Scene) (n : ℕ) (e : Event) → Stands c h t → IsDown (memory_at c t.site n) → LeavesOne n e → Refuses c h t e ⊎ Accepts c h t e → IsDead c (after h (calls.Do e)) n
    heard c h t n e stands down leaves (inl r) = (let P : History → Type 0 = λ x. IsDead c x n in subst P (sym r.stays) (Down t stands down))
    heard c h t n e stands down leaves (inr a) =
        let P : History → Type 0 = λ x. IsDead c x n in
        subst P (sym a.goes) (Down a.scene (done_stands c e h t a.scene a.answer stands a.is) (down_after c t e (a.answer, a.scene) n stands.sound a.is leaves down))

    other : (c : Config) (h : History) (n : ℕ) (e : Event) → IsDead c h n → LeavesOne n e → IsDead c (after h (calls.Do e)) n
    other c h n e (NoRoom full) leaves = (let P : History → Type 0 = λ x. IsDead c x n in subst P (sym (full_stays h e full).0) (NoRoom full))
    other c h n e (Down t stands down) leaves = heard c h t n e stands down leaves (hear c h t e stands)

-- what is asked of the lines of a log from some place on
pub record Follows (n k : ℕ) (h : History) (later : List Line) : Type 0 where
  pub replies : AreReplies h later
  pub does : AllByRecursion (λ x. DoesOrAsks x.call) later
  pub others : AllByRecursion (λ x. (x.caller == k) ≡ false → Leaves n x.call) later

pub follows_on : (n k : ℕ) (h : History) (x : Line) (later : List Line) → Follows n k h (x ∷ later) → Follows n k (after h x.call) later
follows_on n k h x later f = record { replies = f.replies.1; does = f.does.1; others = f.others.1 }

pub said_is : (n k : ℕ) (h : History) (x : Line) (later : List Line) → Follows n k h (x ∷ later) → x.reply.said ≡ (outcome h x.call).0
said_is n k h x later f = ap (λ (r : Reply). r.said) f.replies.0

dead_line : (c : Config) (n k : ℕ) (h : History) (x : Line) (later : List Line) (left : List Event) (stage : Stage) (b : Bool) → (x.caller == k) ≡ b → IsDead c h n → Follows n k h (x ∷ later) → IsTrace n left
    → IsGuestRun n left stage (cond b (x ∷ lines_by k later) (lines_by k later))
    → (IsDead c (after h x.call) n → (l : List Event) (g : Stage) → IsTrace n l → IsGuestRun n l g (lines_by k later) → reads_answered (lines_by k later) ≡ [])
    → reads_answered (cond b (x ∷ lines_by k later) (lines_by k later)) ≡ []
dead_line c n k h x later left stage true own dead f trace run rest =
    let p = passes_own c h n left stage x.call x.reply.said (said_is n k h x later f) dead f.does.0 trace run.0 in
    p.silent (reads_answered (lines_by k later)) ∙ rest p.dead (left_of left stage x.reply.said) (stage_of left stage x.reply.said) (trace_left (IsTraceEvent n) left stage x.reply.said trace) run.1
dead_line c n k h x later left stage false own dead f trace run rest = rest (passes_other c h n x.call dead (f.others.0 own) (kind_of x.call f.does.0)) left stage trace run

pub dead_reads : (c : Config) (n k : ℕ) (later : List Line) (h : History) (left : List Event) (stage : Stage) → IsDead c h n → Follows n k h later → IsTrace n left → IsGuestRun n left stage (lines_by k later)
    → reads_answered (lines_by k later) ≡ []
dead_reads c n k [] h left stage dead f trace run = refl
dead_reads c n k (x ∷ later) h left stage dead f trace run =
    dead_line c n k h x later left stage (x.caller == k) refl dead f trace run (λ d l g tr r. dead_reads c n k later (after h x.call) l g d (follows_on n k h x later f) tr r)
