-- What is heard of a journal at a call.
use Rattle.std.specs.Prelude.{◌≡◌, ℕ, ◌+◌, Result, Ok, Err, IsOk, if◌then◌else◌}
use Rattle.esx_events.specs.declared.event.Refusal.{Refusal}
use Rattle.esx_events.specs.declared.call.Call.{Call}
use Rattle.esx_events.specs.declared.call.Call.TheVariants as calls
use Rattle.esx_events.specs.declared.call.Said.{Said}
use Rattle.esx_events.specs.declared.call.Said.TheVariants as said
use Rattle.esx_events.specs.declared.call.Stand.{Stand}
use Rattle.esx_model.specs.Readings.{activity}
use Rattle.esx_model.specs.History.{History, book_at, do_event}
use Rattle.esx_model.specs.Console.{outcome, after}
use Rattle.esx_journal.specs.Journal.{Kept, Holds}
use Rattle.esx_console.specs.declared.hearing.Heard.{Heard}
use Rattle.esx_console.specs.Calls.{OnlyAsks}

-- what a journal is left with by a call, and what is heard of it
pub record Hears (new : Kept) (h : History) (call : Call) (heard : Heard) : Type 0 where
  pub holds : Holds new (after h call)
  pub said_is : heard.said ≡ (outcome h call).0
  pub jumps : (after h call).jumps ≡ h.jumps + (if heard.jumped then 1 else 0)

-- a call that may take memory: an event, a mark, a trial, or a question that is answered by rows or by averages
abbrev pub MayLackMemory : Call → Type 0
MayLackMemory (calls.Do e) = Unit {0}
MayLackMemory (calls.Undo k) = ⊥
MayLackMemory (calls.Redo k) = ⊥
MayLackMemory (calls.Goto n) = ⊥
MayLackMemory (calls.Visit name) = ⊥
MayLackMemory (calls.Mark name) = Unit {0}
MayLackMemory (calls.Prune n) = ⊥
MayLackMemory (calls.WhatIf events) = Unit {0}
MayLackMemory calls.Sum = ⊥
MayLackMemory calls.Table = Unit {0}
MayLackMemory (calls.OfVm n) = Unit {0}
MayLackMemory (calls.OfPage n page) = ⊥
MayLackMemory (calls.Advise n page) = ⊥
MayLackMemory calls.Stand = ⊥
MayLackMemory calls.Marks = Unit {0}

-- A call comes to where it takes memory: an event is accepted, and a question for a machine's averages finds the machine.
abbrev pub ComesToMemory : History → Call → Type 0
ComesToMemory h (calls.Do e) = IsOk (do_event e h)
ComesToMemory h (calls.Undo k) = Unit {0}
ComesToMemory h (calls.Redo k) = Unit {0}
ComesToMemory h (calls.Goto n) = Unit {0}
ComesToMemory h (calls.Visit name) = Unit {0}
ComesToMemory h (calls.Mark name) = Unit {0}
ComesToMemory h (calls.Prune n) = Unit {0}
ComesToMemory h (calls.WhatIf events) = Unit {0}
ComesToMemory h calls.Sum = Unit {0}
ComesToMemory h calls.Table = Unit {0}
ComesToMemory h (calls.OfVm n) = IsOk (activity (book_at h) n)
ComesToMemory h (calls.OfPage n page) = Unit {0}
ComesToMemory h (calls.Advise n page) = Unit {0}
ComesToMemory h calls.Stand = Unit {0}
ComesToMemory h calls.Marks = Unit {0}

-- a call that changes a journal and takes no memory: a move of the cursor or a prune
abbrev pub MovesOrPrunes : Call → Type 0
MovesOrPrunes call = (OnlyAsks call → ⊥) × (MayLackMemory call → ⊥)

-- what is said to one, which is copied with no memory
abbrev pub IsShort : Said → Type 0
IsShort (said.Done answer) = ⊥
IsShort (said.Refused refusal) = Unit {0}
IsShort (said.Stand stand) = Unit {0}
IsShort (said.Marked name n) = ⊥
IsShort (said.Pruned count) = Unit {0}
IsShort (said.Sides sides) = ⊥
IsShort (said.Sum sum) = ⊥
IsShort (said.Table rows sum) = ⊥
IsShort (said.Activity activity) = ⊥
IsShort (said.Page state) = ⊥
IsShort (said.Help help) = ⊥
IsShort (said.Marks marks) = ⊥

-- what is said to a move
abbrev pub move_said : Result Stand Refusal → Said
move_said (Ok stand) = said.Stand stand
move_said (Err e) = said.Refused e

-- what is said to a prune
abbrev pub prune_said : Result ℕ Refusal → Said
prune_said (Ok count) = said.Pruned count
prune_said (Err e) = said.Refused e
