-- Calls that leave the history as it was.
use Rattle.std.proofs.Common.{◌≡◌, refl, ◌∙◌, ℕ, List, Option, Some, None, Result, Ok, Err}
use Rattle.esx_events.specs.declared.event.Answer.{Answer}
use Rattle.esx_events.specs.declared.event.Refusal.{Refusal}
use Rattle.esx_events.specs.declared.event.Refusal.TheVariants.{NothingToUndo, NothingToRedo}
use Rattle.esx_events.specs.declared.call.Call.{Call}
use Rattle.esx_events.specs.declared.call.Call.TheVariants as calls
use Rattle.esx_events.specs.declared.call.Said.TheVariants as said
use Rattle.esx_model.specs.History.{History, do_event, undo, redo}
use Rattle.esx_model.specs.Branching.{goto, visit, mark, prune}
use Rattle.esx_model.specs.Console.{Session, Outcome, history, outcome, after, next_reply, lined, event_outcome, move_outcome, goto_outcome, mark_outcome, prune_outcome}
use Rattle.esx_console.specs.Calls.{OnlyAsks, said_next}
use Rattle.esx_console.proofs.Logs.{lined_history}

-- where a refusal is said, nothing changes
abbrev Stays : History → Outcome → Type 0
Stays h o = (e : Refusal) → o.0 ≡ said.Refused e → o.1 ≡ h

event_stays : (h : History) (d : Result (Answer × History) Refusal) → Stays h (event_outcome h d)
event_stays h (Ok r) e s = cc
event_stays h (Err x) e s = refl

move_stays : (h : History) (wanted : Refusal) (d : Option History) → Stays h (move_outcome wanted h d)
move_stays h wanted (Some t) e s = cc
move_stays h wanted None e s = refl

goto_stays : (h : History) (d : Result History Refusal) → Stays h (goto_outcome h d)
goto_stays h (Ok t) e s = cc
goto_stays h (Err x) e s = refl

mark_stays : (h : History) (name : List ℕ) (d : Result History Refusal) → Stays h (mark_outcome name h d)
mark_stays h name (Ok t) e s = cc
mark_stays h name (Err x) e s = refl

prune_stays : (h : History) (d : Result (ℕ × History) Refusal) → Stays h (prune_outcome h d)
prune_stays h (Ok r) e s = cc
prune_stays h (Err x) e s = refl

stays : (h : History) (call : Call) → Stays h (outcome h call)
unfolding outcome
stays h (calls.Do event) = event_stays h (do_event event h)
stays h (calls.Undo k) = move_stays h NothingToUndo (undo k h)
stays h (calls.Redo k) = move_stays h NothingToRedo (redo k h)
stays h (calls.Goto n) = goto_stays h (goto n h)
stays h (calls.Visit name) = goto_stays h (visit name h)
stays h (calls.Mark name) = mark_stays h name (mark name h)
stays h (calls.Prune n) = prune_stays h (prune n h)
stays h (calls.WhatIf events) = λ e s. refl
stays h calls.Sum = λ e s. refl
stays h calls.Table = λ e s. refl
stays h (calls.OfVm n) = λ e s. refl
stays h (calls.OfPage n page) = λ e s. refl
stays h (calls.Advise n page) = λ e s. refl
stays h calls.Stand = λ e s. refl
stays h calls.Marks = λ e s. refl

asks : (h : History) (call : Call) → OnlyAsks call → after h call ≡ h
unfolding outcome
asks h (calls.Do event) ok = absurd ok
asks h (calls.Undo k) ok = absurd ok
asks h (calls.Redo k) ok = absurd ok
asks h (calls.Goto n) ok = absurd ok
asks h (calls.Visit name) ok = absurd ok
asks h (calls.Mark name) ok = absurd ok
asks h (calls.Prune n) ok = absurd ok
asks h (calls.WhatIf events) ok = refl
asks h calls.Sum ok = refl
asks h calls.Table ok = refl
asks h (calls.OfVm n) ok = refl
asks h (calls.OfPage n page) ok = refl
asks h (calls.Advise n page) ok = refl
asks h calls.Stand ok = refl
asks h calls.Marks ok = refl

pub refused_line : (s : Session) (caller : ℕ) (call : Call) (e : Refusal) → said_next s call ≡ said.Refused e → history (lined s caller call) ≡ history s
unfolding next_reply
refused_line s caller call e told = lined_history s caller call ∙ stays (history s) call e told

pub asked_line : (s : Session) (caller : ℕ) (call : Call) → OnlyAsks call → history (lined s caller call) ≡ history s
asked_line s caller call ok = lined_history s caller call ∙ asks (history s) call ok
