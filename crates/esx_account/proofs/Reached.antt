-- Every list of calls leads to a history that accepted events, moves, names and prunes reach.
use Rattle.std.proofs.Common.{◌≡◌, refl, ℕ, List, [], ◌∷◌, Option, Some, None, Result, Ok, Err}
use Rattle.esx_types.specs.declared.config.Config.{Config}
use Rattle.esx_events.specs.declared.event.Event.{Event}
use Rattle.esx_events.specs.declared.event.Answer.{Answer}
use Rattle.esx_events.specs.declared.event.Refusal.{Refusal}
use Rattle.esx_events.specs.declared.event.Refusal.TheVariants.{NothingToUndo, NothingToRedo}
use Rattle.esx_events.specs.declared.call.Call.{Call}
use Rattle.esx_events.specs.declared.call.Call.TheVariants as calls
use Rattle.esx_events.specs.declared.call.Line.{Line}
use Rattle.esx_model.specs.History.{History, opened, do_event, undo, redo}
use Rattle.esx_model.specs.Branching.{goto, visit, mark, prune}
use Rattle.esx_model.specs.Console.{Session, history, history_from, after, outcome, event_outcome, move_outcome, goto_outcome, mark_outcome, prune_outcome}
use Rattle.esx_journal.specs.Reached.{IsReached}
use Rattle.esx_journal.specs.Reached.IsReached.{Opened, Did, Undid, Redid, Went, Visited, Named, Pruned}

did : (c : Config) (h : History) (e : Event) (d : Result (Answer × History) Refusal) → IsReached c h → do_event e h ≡ d → IsReached c (event_outcome h d).1
did c h e (Ok r) reached is = Did e r.0 h r.1 reached is
did c h e (Err r) reached is = reached

undid : (c : Config) (h : History) (k : ℕ) (o : Option History) → IsReached c h → undo k h ≡ o → IsReached c (move_outcome NothingToUndo h o).1
undid c h k (Some t) reached is = Undid k h t reached is
undid c h k None reached is = reached

redid : (c : Config) (h : History) (k : ℕ) (o : Option History) → IsReached c h → redo k h ≡ o → IsReached c (move_outcome NothingToRedo h o).1
redid c h k (Some t) reached is = Redid k h t reached is
redid c h k None reached is = reached

went : (c : Config) (h : History) (n : ℕ) (d : Result History Refusal) → IsReached c h → goto n h ≡ d → IsReached c (goto_outcome h d).1
went c h n (Ok t) reached is = Went n h t reached is
went c h n (Err e) reached is = reached

visited : (c : Config) (h : History) (name : List ℕ) (d : Result History Refusal) → IsReached c h → visit name h ≡ d → IsReached c (goto_outcome h d).1
visited c h name (Ok t) reached is = Visited name h t reached is
visited c h name (Err e) reached is = reached

marked : (c : Config) (h : History) (name : List ℕ) (d : Result History Refusal) → IsReached c h → mark name h ≡ d → IsReached c (mark_outcome name h d).1
marked c h name (Ok t) reached is = Named name h t reached is
marked c h name (Err e) reached is = reached

pruned : (c : Config) (h : History) (n : ℕ) (d : Result (ℕ × History) Refusal) → IsReached c h → prune n h ≡ d → IsReached c (prune_outcome h d).1
pruned c h n (Ok r) reached is = Pruned n r.0 h r.1 reached is
pruned c h n (Err e) reached is = reached

called : (c : Config) (h : History) (call : Call) → IsReached c h → IsReached c (after h call)
unfolding outcome
called c h (calls.Do e) reached = did c h e (do_event e h) reached refl
called c h (calls.Undo k) reached = undid c h k (undo k h) reached refl
called c h (calls.Redo k) reached = redid c h k (redo k h) reached refl
called c h (calls.Goto n) reached = went c h n (goto n h) reached refl
called c h (calls.Visit name) reached = visited c h name (visit name h) reached refl
called c h (calls.Mark name) reached = marked c h name (mark name h) reached refl
called c h (calls.Prune n) reached = pruned c h n (prune n h) reached refl
called c h (calls.WhatIf es) reached = reached
called c h calls.Sum reached = reached
called c h calls.Table reached = reached
called c h (calls.OfVm n) reached = reached
called c h (calls.OfPage n page) reached = reached
called c h (calls.Advise n page) reached = reached
called c h calls.Stand reached = reached
called c h calls.Marks reached = reached

logged : (c : Config) (h : History) (log : List Line) → IsReached c h → IsReached c (history_from h log)
unfolding history_from
logged c h [] reached = reached
logged c h (x ∷ log) reached = logged c (after h x.call) log (called c h x.call reached)

pub session_reached : (s : Session) → IsReached s.site (history s)
session_reached s = logged s.site (opened s.site) s.log Opened
