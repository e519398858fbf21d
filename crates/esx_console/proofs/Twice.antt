-- What is said twice.
use Rattle.std.proofs.Common.{◌≡◌, refl, sym, subst, ℕ, List, Result, Ok, Err, IfOk, OnErr}
use Rattle.esx_events.specs.declared.event.Event.{Event}
use Rattle.esx_events.specs.declared.event.Refusal.{Refusal}
use Rattle.esx_events.specs.declared.call.Call.{Call}
use Rattle.esx_events.specs.declared.call.Call.TheVariants as calls
use Rattle.esx_events.specs.declared.call.Said.{Said}
use Rattle.esx_events.specs.declared.call.Said.TheVariants as said
use Rattle.esx_events.specs.declared.call.Stand.{Stand}
use Rattle.esx_model.specs.History.{History}
use Rattle.esx_journal.specs.Journal.{Kept, Holds}
use Rattle.esx_console.specs.declared.hearing.Heard.{Heard}
use Rattle.esx_console.specs.Calls.{OnlyAsks}
use Rattle.esx_console.specs.Hearing.{Hears, MovesOrPrunes, IsShort}

-- what holds, where there is an error
pub where_err : {T E P : Type 0} (r : Result T E) → P → OnErr r P
where_err (Ok x) p = tt
where_err (Err e) p = p

pub err_then : {T E P Q : Type 0} (r : Result T E) → (P → Q) → OnErr r P → OnErr r Q
err_then (Ok x) f p = tt
err_then (Err e) f p = f p

pub long : (s : Said) → ((e : Refusal) → s ≡ said.Refused e → ⊥) → ((stand : Stand) → s ≡ said.Stand stand → ⊥) → ((count : ℕ) → s ≡ said.Pruned count → ⊥) → IsShort s → ⊥
long (said.Done answer) refused stands pruned short = short
long (said.Refused e) refused stands pruned short = refused e refl
long (said.Stand stand) refused stands pruned short = stands stand refl
long (said.Marked name n) refused stands pruned short = short
long (said.Pruned count) refused stands pruned short = pruned count refl
long (said.Sides sides) refused stands pruned short = short
long (said.Sum sum) refused stands pruned short = short
long (said.Table rows sum) refused stands pruned short = short
long (said.Activity activity) refused stands pruned short = short
long (said.Page state) refused stands pruned short = short
long (said.Help help) refused stands pruned short = short
long (said.Marks marks) refused stands pruned short = short

-- a call that is neither an event nor a mark asks, or moves or prunes
pub asks_or_moves : {A : Type 0} (call : Call) → ((e : Event) → call ≡ calls.Do e → ⊥) → ((name : List ℕ) → call ≡ calls.Mark name → ⊥)
    → (OnlyAsks call → A) → (MovesOrPrunes call → A) → A
asks_or_moves (calls.Do e) does marks asks moves = absurd (does e refl)
asks_or_moves (calls.Undo k) does marks asks moves = moves (λ x. x, λ x. x)
asks_or_moves (calls.Redo k) does marks asks moves = moves (λ x. x, λ x. x)
asks_or_moves (calls.Goto n) does marks asks moves = moves (λ x. x, λ x. x)
asks_or_moves (calls.Visit name) does marks asks moves = moves (λ x. x, λ x. x)
asks_or_moves (calls.Mark name) does marks asks moves = absurd (marks name refl)
asks_or_moves (calls.Prune n) does marks asks moves = moves (λ x. x, λ x. x)
asks_or_moves (calls.WhatIf events) does marks asks moves = asks tt
asks_or_moves calls.Sum does marks asks moves = asks tt
asks_or_moves calls.Table does marks asks moves = asks tt
asks_or_moves (calls.OfVm n) does marks asks moves = asks tt
asks_or_moves (calls.OfPage n page) does marks asks moves = asks tt
asks_or_moves (calls.Advise n page) does marks asks moves = asks tt
asks_or_moves calls.Stand does marks asks moves = asks tt
asks_or_moves calls.Marks does marks asks moves = asks tt

-- what is heard, and the same again
pub both_heard : {E : Type 0} (old new : Kept) (call : Call) (heard : Heard) (r : Result (Heard × Heard) E) → IfOk r (λ both. both ≡ (heard, heard))
    → ((h : History) → Holds old h → Hears new h call heard) → IfOk r (λ both. (h : History) → Holds old h → Hears new h call both.0 × Hears new h call both.1)
both_heard old new call heard (Ok both) is hears = λ h holds.
    let P : Heard × Heard → Type 0 = λ b. Hears new h call b.0 × Hears new h call b.1 in
    subst P (sym is) (hears h holds, hears h holds)
both_heard old new call heard (Err e) is hears = tt

-- the same, where what is heard rests on what holds at no error
pub both_heard_where : {E P : Type 0} (old new : Kept) (call : Call) (heard : Heard) (r : Result (Heard × Heard) E) → IfOk r (λ both. both ≡ (heard, heard)) → IfOk r (λ both. P)
    → (P → (h : History) → Holds old h → Hears new h call heard) → IfOk r (λ both. (h : History) → Holds old h → Hears new h call both.0 × Hears new h call both.1)
both_heard_where {E = E} old new call heard (Ok both) is p hears = both_heard {E = E} old new call heard (Ok both) is (hears p)
both_heard_where old new call heard (Err e) is p hears = tt

-- what is said by the one of two, and the jump of the other
pub by_copy : (new : Kept) (h : History) (call : Call) (heard copy : Heard) → Hears new h call heard → Hears new h call copy
    → Hears new h call (record { said = copy.said; jumped = heard.jumped })
by_copy new h call heard copy a b = record { holds = a.holds; said_is = b.said_is; jumps = a.jumps }
