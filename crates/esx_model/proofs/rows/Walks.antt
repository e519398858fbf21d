-- Worked examples, by computation: calls of a console from the opening on, each with its reply.
use Rattle.std.specs.Prelude.{◌≡◌, List, [], ◌∷◌, Ok, Err}
use Rattle.std.proofs.Common.{refl}
use Rattle.esx_types.specs.declared.level.Level.TheVariants as levels
use Rattle.esx_events.specs.declared.event.Event.TheVariants as events
use Rattle.esx_events.specs.declared.event.Answer.TheVariants as answers
use Rattle.esx_events.specs.declared.event.Refusal.TheVariants as refusals
use Rattle.esx_events.specs.declared.call.Call.TheVariants as calls
use Rattle.esx_events.specs.declared.call.Said.TheVariants as said
use Rattle.esx_types.specs.declared.config.Config.{Config}
use Rattle.esx_events.specs.declared.call.Call.{Call}
use Rattle.esx_model.specs.Tree.{Move, Up, Down}
use Rattle.esx_model.specs.History.{History, opened}
use Rattle.esx_model.specs.Console.{after}
use Rattle.esx_model.proofs.rows.Replies.{site, sum, stand, name_row, sides, reply, replies_of, AreAnswered}

-- Names in order of making, each of the node where it was given; a move to the node where the cursor is counts too.
pub visits : AreAnswered (site 20 16 8 75 6 4 2 1 16777216) (
    (calls.Do (events.SetTax 1), reply 0 (said.Done answers.Done)) ∷
    (calls.Mark (98 ∷ []), reply 0 (said.Marked (98 ∷ []) 1)) ∷
    (calls.Do (events.SetTax 2), reply 0 (said.Done answers.Done)) ∷
    (calls.Mark (97 ∷ []), reply 0 (said.Marked (97 ∷ []) 2)) ∷
    (calls.Visit (98 ∷ []), reply 1 (said.Stand (stand 1 1))) ∷
    (calls.Marks, reply 1 (said.Marks (name_row (98 ∷ []) 1 ∷ name_row (97 ∷ []) 2 ∷ []))) ∷
    (calls.Mark (97 ∷ []), reply 1 (said.Refused refusals.NameTaken)) ∷
    (calls.Redo 1, reply 2 (said.Stand (stand 2 2))) ∷
    (calls.Goto 2, reply 3 (said.Stand (stand 2 2))) ∷
    (calls.Goto 0, reply 4 (said.Stand (stand 0 0))) ∷
    (calls.Visit (97 ∷ []), reply 5 (said.Stand (stand 2 2))) ∷
    (calls.Undo 2, reply 6 (said.Stand (stand 0 0))) ∷
    (calls.Prune 1, reply 6 (said.Pruned 2)) ∷
    (calls.Visit (97 ∷ []), reply 6 (said.Refused refusals.NoSuchNode)) ∷
    (calls.Mark (97 ∷ []), reply 6 (said.Refused refusals.NameTaken)) ∷
    (calls.Marks, reply 6 (said.Marks (name_row (98 ∷ []) 1 ∷ name_row (97 ∷ []) 2 ∷ []))) ∷
    (calls.Stand, reply 6 (said.Stand (stand 0 0))) ∷ [])
unfolding replies_of
visits = refl

-- A node is dropped once; what was dropped before is not counted again, and a number is not used again.
pub pruned_in_parts : AreAnswered (site 20 16 8 75 6 4 2 1 4) (
    (calls.Do (events.SetTax 1), reply 0 (said.Done answers.Done)) ∷
    (calls.Do (events.SetTax 2), reply 0 (said.Done answers.Done)) ∷
    (calls.Do (events.SetTax 3), reply 0 (said.Done answers.Done)) ∷
    (calls.Goto 1, reply 1 (said.Stand (stand 1 1))) ∷
    (calls.Prune 3, reply 1 (said.Pruned 1)) ∷
    (calls.Prune 2, reply 1 (said.Pruned 1)) ∷
    (calls.Prune 2, reply 1 (said.Refused refusals.NoSuchNode)) ∷
    (calls.Prune 9, reply 1 (said.Refused refusals.NoSuchNode)) ∷
    (calls.Prune 0, reply 1 (said.Refused refusals.OnPath)) ∷
    (calls.Do (events.SetTax 4), reply 1 (said.Done answers.Done)) ∷
    (calls.Do (events.SetTax 5), reply 1 (said.Refused refusals.Full)) ∷
    (calls.Goto 4, reply 2 (said.Stand (stand 4 2))) ∷ [])
unfolding replies_of
pruned_in_parts = refl

-- Between branches the cursor goes through the node where they part, and redo goes where it last went; what is only tried leaves that as it was.
pub between_branches : AreAnswered (site 20 16 8 75 6 4 2 1 16777216) (
    (calls.Do (events.SetTax 1), reply 0 (said.Done answers.Done)) ∷
    (calls.Do (events.SetTax 2), reply 0 (said.Done answers.Done)) ∷
    (calls.Do (events.SetTax 3), reply 0 (said.Done answers.Done)) ∷
    (calls.Goto 1, reply 1 (said.Stand (stand 1 1))) ∷
    (calls.Do (events.SetTax 4), reply 1 (said.Done answers.Done)) ∷
    (calls.Do (events.SetTax 5), reply 1 (said.Done answers.Done)) ∷
    (calls.Goto 3, reply 2 (said.Stand (stand 3 3))) ∷
    (calls.Undo 2, reply 3 (said.Stand (stand 1 1))) ∷
    (calls.WhatIf ((events.SetTax 100) ∷ (events.SetTax 9) ∷ []), reply 3 (said.Sides (sides 2 (sum 0 0 0 20 levels.High) ((Err refusals.BadSpec) ∷ []) (sum 0 0 0 20 levels.High)))) ∷
    (calls.WhatIf ((events.SetTax 8) ∷ (events.SetTax 9) ∷ []), reply 3 (said.Sides (sides 2 (sum 0 0 0 20 levels.High) ((Ok answers.Done) ∷ (Ok answers.Done) ∷ []) (sum 0 0 0 20 levels.High)))) ∷
    (calls.Redo 1, reply 4 (said.Stand (stand 2 2))) ∷
    (calls.Goto 5, reply 5 (said.Stand (stand 5 3))) ∷
    (calls.Undo 1, reply 6 (said.Stand (stand 4 2))) ∷
    (calls.Redo 1, reply 7 (said.Stand (stand 5 3))) ∷
    (calls.Goto 0, reply 8 (said.Stand (stand 0 0))) ∷
    (calls.Redo 3, reply 9 (said.Stand (stand 5 3))) ∷
    (calls.Stand, reply 9 (said.Stand (stand 5 3))) ∷ [])
unfolding replies_of
between_branches = refl

history_then : List Call → History → History
history_then [] h = h
history_then (call ∷ calls) h = history_then calls (after h call)

-- the moves of calls from the opening on, the latest first
unfoldable walk_of : Config → List Call → List Move
unfolding history_then replies_of
walk_of c calls = (history_then calls (opened c)).walk

-- The moves between two branches are up to the node where they part and down; a refused call and what is only tried make none.
moves : walk_of (site 20 16 8 75 6 4 2 1 16777216) (
    calls.Do (events.SetTax 1) ∷ calls.Do (events.SetTax 2) ∷ calls.Do (events.SetTax 3) ∷ calls.Goto 1 ∷ calls.Do (events.SetTax 4) ∷ calls.Do (events.SetTax 5) ∷
    calls.Undo 9 ∷ calls.Goto 9 ∷ calls.Do (events.SetTax 100) ∷ calls.WhatIf (events.SetTax 6 ∷ []) ∷ calls.Goto 3 ∷ calls.Goto 3 ∷ calls.Undo 1 ∷ [])
    ≡ Up ∷ Down 3 ∷ Down 2 ∷ Up ∷ Up ∷ Down 5 ∷ Down 4 ∷ Up ∷ Up ∷ Down 3 ∷ Down 2 ∷ Down 1 ∷ []
unfolding walk_of
moves = refl
