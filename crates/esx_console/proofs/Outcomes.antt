-- What a console hears from its journal is the definition's outcome.
use Rattle.std.proofs.Common.{◌≡◌, ◌≢◌, refl, sym, ◌∙◌, ap, subst, ℕ, ◌+◌, Bool, true, false, if◌then◌else◌, is_ok, List, Option, Some, Result, Ok, Err, IfOk, arith}
use Rattle.esx_events.specs.declared.event.Event.{Event}
use Rattle.esx_events.specs.declared.event.Answer.{Answer}
use Rattle.esx_events.specs.declared.event.Refusal.{Refusal}
use Rattle.esx_events.specs.declared.event.Refusal.TheVariants.{NothingToUndo, NothingToRedo, OutOfMemory}
use Rattle.esx_events.specs.declared.call.Call.{Call}
use Rattle.esx_events.specs.declared.call.Call.TheVariants as calls
use Rattle.esx_events.specs.declared.call.Said.{Said}
use Rattle.esx_events.specs.declared.call.Said.TheVariants as said
use Rattle.esx_events.specs.declared.call.Stand.{Stand}
use Rattle.esx_model.specs.History.{History, cursor, do_event, undo, redo}
use Rattle.esx_model.specs.Branching.{goto, visit, mark, prune}
use Rattle.esx_model.specs.Console.{Outcome, outcome, event_outcome, move_outcome, goto_outcome, mark_outcome, prune_outcome, stand_of}
use Rattle.esx_journal.specs.Journal.{Kept, Holds, Moves, Goes, Prunes, Accepted, Refused, Marked, Unmarked, stand_at}
use Rattle.esx_console.specs.declared.hearing.Heard.{Heard}
use Rattle.esx_console.specs.Hearing.{Hears, move_said, prune_said}
use Rattle.esx_console.proofs.Keeps.{Keeps, undo_keeps, redo_keeps, goto_keeps, visit_keeps, mark_keeps, prune_keeps, event_keeps}

-- what is said beside a history
abbrev pub beside : History → Said → Outcome
beside h s = (s, h)

pub hears : (new : Kept) (h t : History) (call : Call) (s : Said) (jumped : Bool) → outcome h call ≡ beside t s → Holds new t
    → t.jumps ≡ h.jumps + (if jumped then 1 else 0) → Hears new h call (record { said = s; jumped = jumped })
hears new h t call s jumped e holds jumps =
    let P : Outcome → Type 0 = λ o. Holds new o.1 in
    record { holds = subst P (sym e) holds; said_is = sym (ap (λ (o : Outcome). o.0) e); jumps = ap (λ (o : Outcome). o.1.jumps) e ∙ jumps }

stays : (h : History) → h.jumps ≡ h.jumps + (if false then 1 else 0)
stays h = omega arith

-- what is heard, by its value
pub heard_as : (new : Kept) (h : History) (call : Call) (heard x : Heard) → x ≡ heard → Hears new h call heard → Hears new h call x
heard_as new h call heard x e is = subst (Hears new h call) (sym e) is

-- A question: the history stays as it is.

pub asked : (new : Kept) (h : History) (call : Call) (s : Said) → outcome h call ≡ beside h s → Holds new h → Hears new h call (record { said = s; jumped = false })
asked new h call s is holds = hears new h h call s false is holds (stays h)

pub tells : (new : Kept) (call : Call) (s : Said) → ((h : History) → Holds new h → outcome h call ≡ beside h s) → (x : Heard) → x ≡ record { said = s; jumped = false }
    → (h : History) → Holds new h → Hears new h call x
tells new call s is x e h holds = heard_as new h call _ x e (asked new h call s (is h holds) holds)

pub asks : {E : Type 0} (new : Kept) (call : Call) (s : Said) → ((h : History) → Holds new h → outcome h call ≡ beside h s) → (r : Result Heard E) → IfOk r (λ x. x ≡ record { said = s; jumped = false })
    → IfOk r (λ x. (h : History) → Holds new h → Hears new h call x)
asks new call s is (Ok x) e = tells new call s is x e
asks new call s is (Err x) e = tt

-- A refusal: the journal stays as it is.

refused : (old new : Kept) (h : History) (call : Call) (e : Refusal) → outcome h call ≡ beside h (said.Refused e) → Holds old h → new ≡ old → Hears new h call (record { said = said.Refused e; jumped = false })
refused old new h call e is holds same =
    let P : Kept → Type 0 = λ k. Holds k h in
    asked new h call (said.Refused e) is (subst P (sym same) holds)

-- What is heard of an event or a mark that was refused, unless memory was wanting.
pub unless_memory : {E : Type 0} (P : Heard → Type 0) (why : Refusal) (r : Result Heard E) → IfOk r (λ x. x ≡ record { said = said.Refused why; jumped = false })
    → IfOk r (λ x. why ≢ OutOfMemory) → (why ≢ OutOfMemory → P (record { said = said.Refused why; jumped = false })) → IfOk r P
unless_memory P why (Ok x) is other hears = subst P (sym is) (hears other)
unless_memory P why (Err e) is other hears = tt

-- Moves.

arrived : (new : Kept) (h t : History) (call : Call) (stand : Stand) → outcome h call ≡ beside t (stand_of t) → Holds new t → Keeps h t 1
    → stand ≡ stand_at t → Hears new h call (record { said = said.Stand stand; jumped = true })
arrived new h t call stand e holds keeps stands =
    let P : Said → Type 0 = λ s. Hears new h call (record { said = s; jumped = true }) in
    subst P (sym (ap said.Stand stands)) (hears new h t call (stand_of t) true e holds keeps.count)

turned : (call : Call) (h : History) (wanted : Refusal) (o : Option History) → outcome h call ≡ move_outcome wanted h o → ((t : History) → o ≡ Some t → Keeps h t 1)
    → (old new : Kept) (r : Result Stand Refusal) → Holds old h → Moves wanted r old new o → Hears new h call (record { said = move_said r; jumped = is_ok r })
turned call h wanted o is keeps old new (Ok stand) holds m = arrived new h m.after call stand (is ∙ ap (move_outcome wanted h) m.gives) m.holds (keeps m.after m.gives) m.stands
turned call h wanted o is keeps old new (Err e) holds m =
    let P : Refusal → Type 0 = λ x. Hears new h call (record { said = said.Refused x; jumped = false }) in
    subst P (sym m.why) (refused old new h call wanted (is ∙ ap (move_outcome wanted h) m.none) holds m.same)

pub hears_undo : (old new : Kept) (h : History) (k : ℕ) (r : Result Stand Refusal) → Holds old h → Moves NothingToUndo r old new (undo k h)
    → Hears new h (calls.Undo k) (record { said = move_said r; jumped = is_ok r })
unfolding outcome
hears_undo old new h k r holds m = turned (calls.Undo k) h NothingToUndo (undo k h) refl (λ t. undo_keeps k h t) old new r holds m

pub hears_redo : (old new : Kept) (h : History) (k : ℕ) (r : Result Stand Refusal) → Holds old h → Moves NothingToRedo r old new (redo k h)
    → Hears new h (calls.Redo k) (record { said = move_said r; jumped = is_ok r })
unfolding outcome
hears_redo old new h k r holds m = turned (calls.Redo k) h NothingToRedo (redo k h) refl (λ t. redo_keeps k h t) old new r holds m

went : (call : Call) (h : History) (d : Result History Refusal) → outcome h call ≡ goto_outcome h d → ((t : History) → d ≡ Ok t → Keeps h t 1)
    → (old new : Kept) (r : Result Stand Refusal) → Holds old h → Goes r old new d → Hears new h call (record { said = move_said r; jumped = is_ok r })
went call h d is keeps old new (Ok stand) holds m = arrived new h m.after call stand (is ∙ ap (goto_outcome h) m.gives) m.holds (keeps m.after m.gives) m.stands
went call h d is keeps old new (Err e) holds m = refused old new h call e (is ∙ ap (goto_outcome h) m.why) holds m.same

pub hears_goto : (old new : Kept) (h : History) (n : ℕ) (r : Result Stand Refusal) → Holds old h → Goes r old new (goto n h)
    → Hears new h (calls.Goto n) (record { said = move_said r; jumped = is_ok r })
unfolding outcome
hears_goto old new h n r holds m = went (calls.Goto n) h (goto n h) refl (λ t. goto_keeps n h t) old new r holds m

pub hears_visit : (old new : Kept) (h : History) (name : List ℕ) (r : Result Stand Refusal) → Holds old h → Goes r old new (visit name h)
    → Hears new h (calls.Visit name) (record { said = move_said r; jumped = is_ok r })
unfolding outcome
hears_visit old new h name r holds m = went (calls.Visit name) h (visit name h) refl (λ t. visit_keeps name h t) old new r holds m

-- Names and prunes.

pub hears_mark : (new : Kept) (h : History) (name copy : List ℕ) (n : ℕ) → copy ≡ name → Marked new n (mark name h)
    → Hears new h (calls.Mark name) (record { said = said.Marked copy n; jumped = false })
unfolding outcome
hears_mark new h name copy n same m =
    let keeps = mark_keeps name h m.after m.gives in
    let node : n ≡ cursor h = m.node ∙ keeps.1 in
    let P : ℕ → Type 0 = λ k. Hears new h (calls.Mark name) (record { said = said.Marked copy k; jumped = false }) in
    let Q : List ℕ → Type 0 = λ x. Hears new h (calls.Mark name) (record { said = said.Marked x (cursor h); jumped = false }) in
    let named = hears new h m.after (calls.Mark name) (said.Marked name (cursor h)) false (ap (mark_outcome name h) m.gives) m.holds keeps.0.count in
    subst P (sym node) (subst Q (sym same) named)

pub hears_mark_refused : (old new : Kept) (h : History) (name : List ℕ) (e : Refusal) → Holds old h → Unmarked old new e (mark name h) → e ≢ OutOfMemory
    → Hears new h (calls.Mark name) (record { said = said.Refused e; jumped = false })
unfolding outcome
hears_mark_refused old new h name e holds m other = refused old new h (calls.Mark name) e (ap (mark_outcome name h) (m.why other)) holds m.same

pub hears_prune : (old new : Kept) (h : History) (n : ℕ) (r : Result ℕ Refusal) → Holds old h → Prunes r old new (prune n h)
    → Hears new h (calls.Prune n) (record { said = prune_said r; jumped = false })
unfolding outcome
hears_prune old new h n (Ok count) holds m = hears new h m.after (calls.Prune n) (said.Pruned count) false (ap (prune_outcome h) m.gives) m.holds (prune_keeps n h (count, m.after) m.gives).count
hears_prune old new h n (Err e) holds m = refused old new h (calls.Prune n) e (ap (prune_outcome h) m.why) holds m.same

-- Events.

-- by each of the two answers
pub hears_event : (new : Kept) (h : History) (e : Event) (answers : Answer × Answer) → Accepted new answers (do_event e h)
    → Hears new h (calls.Do e) (record { said = said.Done answers.0; jumped = false }) × Hears new h (calls.Do e) (record { said = said.Done answers.1; jumped = false })
unfolding outcome
hears_event new h e answers a =
    let first = hears new h a.after (calls.Do e) (said.Done answers.0) false (ap (event_outcome h) a.gives) a.holds (event_keeps e h a.after answers.0 a.gives).count in
    let P : Answer → Type 0 = λ x. Hears new h (calls.Do e) (record { said = said.Done x; jumped = false }) in
    (first, subst P (sym a.copy) first)

pub hears_event_refused : (old new : Kept) (h : History) (e : Event) (r : Refusal) → Holds old h → Refused old new r (do_event e h) → r ≢ OutOfMemory
    → Hears new h (calls.Do e) (record { said = said.Refused r; jumped = false })
unfolding outcome
hears_event_refused old new h e r holds f other = refused old new h (calls.Do e) r (ap (event_outcome h) (f.why other)) holds f.same
