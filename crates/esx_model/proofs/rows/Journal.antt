-- Worked examples, by computation: calls of a console from the opening on, each with its reply.
use Rattle.std.specs.Prelude.{[], ◌∷◌, true, Ok, Err}
use Rattle.std.proofs.Common.{refl}
use Rattle.esx_types.specs.declared.level.Level.TheVariants as levels
use Rattle.esx_events.specs.declared.event.Event.TheVariants as events
use Rattle.esx_events.specs.declared.event.Answer.TheVariants as answers
use Rattle.esx_events.specs.declared.event.Refusal.TheVariants as refusals
use Rattle.esx_events.specs.declared.call.Call.TheVariants as calls
use Rattle.esx_events.specs.declared.call.Said.TheVariants as said
use Rattle.esx_model.proofs.rows.Replies.{site, spec, reserved, sum, stand, name_row, sides, reply, replies_of, AreAnswered}

-- Events that are only tried.
pub what_if : AreAnswered (site 20 16 8 75 6 4 2 1 16777216) (
    (calls.Undo 1, reply 0 (said.Refused refusals.NothingToUndo)) ∷
    (calls.Do (events.Admit 0 (spec 2 6 1 1000 0)), reply 0 (said.Done (answers.Admitted (reserved 3 20 4 8)))) ∷
    (calls.Do (events.Start 0), reply 0 (said.Done (answers.Started true 0 1 1))) ∷
    (calls.Undo 3, reply 0 (said.Refused refusals.NothingToUndo)) ∷
    (calls.Prune 1, reply 0 (said.Refused refusals.OnPath)) ∷
    (calls.WhatIf ((events.Read 0 0 0 1) ∷ (events.Read 0 9 0 1) ∷ (events.Read 0 1 0 1) ∷ []), reply 0 (said.Sides (sides 3 (sum 1 0 0 19 levels.High) ((Ok (answers.Bytes (0 ∷ []))) ∷ (Err refusals.OutOfRange) ∷ []) (sum 1 1 0 18 levels.High)))) ∷
    (calls.Stand, reply 0 (said.Stand (stand 2 2))) ∷
    (calls.Do (events.Read 0 0 0 1), reply 0 (said.Done (answers.Bytes (0 ∷ [])))) ∷
    (calls.Stand, reply 0 (said.Stand (stand 3 3))) ∷ [])
unfolding replies_of
what_if = refl

-- Redo goes where the cursor last went.
pub walks : AreAnswered (site 20 16 8 75 6 4 2 1 16777216) (
    (calls.Do (events.Admit 0 (spec 2 6 1 1000 0)), reply 0 (said.Done (answers.Admitted (reserved 3 20 4 8)))) ∷
    (calls.Do (events.Start 0), reply 0 (said.Done (answers.Started true 0 1 1))) ∷
    (calls.Undo 1, reply 1 (said.Stand (stand 1 1))) ∷
    (calls.Do (events.Start 0), reply 1 (said.Done (answers.Started true 0 1 1))) ∷
    (calls.Undo 1, reply 2 (said.Stand (stand 1 1))) ∷
    (calls.Redo 1, reply 3 (said.Stand (stand 3 2))) ∷
    (calls.Goto 2, reply 4 (said.Stand (stand 2 2))) ∷
    (calls.Undo 1, reply 5 (said.Stand (stand 1 1))) ∷
    (calls.Redo 1, reply 6 (said.Stand (stand 2 2))) ∷
    (calls.Undo 1, reply 7 (said.Stand (stand 1 1))) ∷
    (calls.Prune 2, reply 7 (said.Pruned 1)) ∷
    (calls.Redo 1, reply 7 (said.Refused refusals.NothingToRedo)) ∷
    (calls.Goto 2, reply 7 (said.Refused refusals.NoSuchNode)) ∷
    (calls.Goto 3, reply 8 (said.Stand (stand 3 2))) ∷ [])
unfolding replies_of
walks = refl

-- All node numbers are made.
pub full : AreAnswered (site 20 16 8 75 6 4 2 1 2) (
    (calls.Do (events.Admit 0 (spec 2 6 1 1000 0)), reply 0 (said.Done (answers.Admitted (reserved 3 20 4 8)))) ∷
    (calls.Do (events.Start 0), reply 0 (said.Done (answers.Started true 0 1 1))) ∷
    (calls.Do (events.Read 0 0 0 1), reply 0 (said.Refused refusals.Full)) ∷
    (calls.Do (events.Read 0 9 0 1), reply 0 (said.Refused refusals.Full)) ∷
    (calls.Undo 2, reply 1 (said.Stand (stand 0 0))) ∷
    (calls.Sum, reply 1 (said.Sum (sum 0 0 0 20 levels.High))) ∷ [])
unfolding replies_of
full = refl

-- What is undone is another branch.
pub undo_and_redo : AreAnswered (site 20 16 8 75 6 4 2 1 16777216) (
    (calls.Do (events.Admit 0 (spec 2 6 1 1000 0)), reply 0 (said.Done (answers.Admitted (reserved 3 20 4 8)))) ∷
    (calls.Do (events.Start 0), reply 0 (said.Done (answers.Started true 0 1 1))) ∷
    (calls.Undo 1, reply 1 (said.Stand (stand 1 1))) ∷
    (calls.Do (events.Start 0), reply 1 (said.Done (answers.Started true 0 1 1))) ∷
    (calls.Stand, reply 1 (said.Stand (stand 3 2))) ∷
    (calls.Redo 1, reply 1 (said.Refused refusals.NothingToRedo)) ∷
    (calls.Redo 0, reply 2 (said.Stand (stand 3 2))) ∷ [])
unfolding replies_of
undo_and_redo = refl

-- Names outlive pruning.
pub marks : AreAnswered (site 20 16 8 75 6 4 2 1 16777216) (
    (calls.Do (events.Admit 0 (spec 2 6 1 1000 0)), reply 0 (said.Done (answers.Admitted (reserved 3 20 4 8)))) ∷
    (calls.Do (events.Start 0), reply 0 (said.Done (answers.Started true 0 1 1))) ∷
    (calls.Mark (98 ∷ 97 ∷ 115 ∷ 101 ∷ []), reply 0 (said.Marked (98 ∷ 97 ∷ 115 ∷ 101 ∷ []) 2)) ∷
    (calls.Mark (98 ∷ 97 ∷ 115 ∷ 101 ∷ []), reply 0 (said.Refused refusals.NameTaken)) ∷
    (calls.Do (events.Read 0 0 0 1), reply 0 (said.Done (answers.Bytes (0 ∷ [])))) ∷
    (calls.Undo 2, reply 1 (said.Stand (stand 1 1))) ∷
    (calls.Prune 0, reply 1 (said.Refused refusals.OnPath)) ∷
    (calls.Prune 2, reply 1 (said.Pruned 2)) ∷
    (calls.Visit (98 ∷ 97 ∷ 115 ∷ 101 ∷ []), reply 1 (said.Refused refusals.NoSuchNode)) ∷
    (calls.Visit (110 ∷ 111 ∷ 110 ∷ 101 ∷ []), reply 1 (said.Refused refusals.NoSuchName)) ∷
    (calls.Marks, reply 1 (said.Marks (name_row (98 ∷ 97 ∷ 115 ∷ 101 ∷ []) 2 ∷ []))) ∷
    (calls.Redo 1, reply 1 (said.Refused refusals.NothingToRedo)) ∷ [])
unfolding replies_of
marks = refl

-- Events can be tried when no node can be made.
pub what_if_when_full : AreAnswered (site 20 16 8 75 6 4 2 1 2) (
    (calls.Do (events.Admit 0 (spec 2 6 1 1000 0)), reply 0 (said.Done (answers.Admitted (reserved 3 20 4 8)))) ∷
    (calls.Do (events.Start 0), reply 0 (said.Done (answers.Started true 0 1 1))) ∷
    (calls.WhatIf ((events.Read 0 0 0 1) ∷ []), reply 0 (said.Sides (sides 1 (sum 1 0 0 19 levels.High) ((Ok (answers.Bytes (0 ∷ []))) ∷ []) (sum 1 1 0 18 levels.High)))) ∷ [])
unfolding replies_of
what_if_when_full = refl

-- A node is dropped with all below it.
pub pruned : AreAnswered (site 20 16 8 75 6 4 2 1 16777216) (
    (calls.Do (events.SetTax 1), reply 0 (said.Done answers.Done)) ∷
    (calls.Do (events.SetTax 2), reply 0 (said.Done answers.Done)) ∷
    (calls.Do (events.SetTax 3), reply 0 (said.Done answers.Done)) ∷
    (calls.Prune 2, reply 0 (said.Refused refusals.OnPath)) ∷
    (calls.Goto 1, reply 1 (said.Stand (stand 1 1))) ∷
    (calls.Prune 2, reply 1 (said.Pruned 2)) ∷
    (calls.Goto 3, reply 1 (said.Refused refusals.NoSuchNode)) ∷ [])
unfolding replies_of
pruned = refl
