-- Worked examples, by computation: calls of a console from the opening on, each with its reply.
use Rattle.std.specs.Prelude.{[], ◌∷◌, true}
use Rattle.std.proofs.Common.{refl}
use Rattle.esx_events.specs.declared.event.Event.TheVariants as events
use Rattle.esx_events.specs.declared.event.Answer.TheVariants as answers
use Rattle.esx_events.specs.declared.event.Refusal.TheVariants as refusals
use Rattle.esx_events.specs.declared.call.Call.TheVariants as calls
use Rattle.esx_events.specs.declared.call.Said.TheVariants as said
use Rattle.esx_events.specs.declared.call.PageState.TheVariants as states
use Rattle.esx_events.specs.declared.call.Help.TheVariants as helps
use Rattle.esx_model.proofs.rows.Replies.{site, spec, reserved, stand, activity, reply, replies_of, AreAnswered}

-- Pages are lent, one is used, and the balloon is reset.
pub pop_and_reset : AreAnswered (site 8 16 8 75 6 4 2 1 16777216) (
    (calls.Do (events.Admit 0 (spec 2 8 1 1000 4)), reply 0 (said.Done (answers.Admitted (reserved 3 8 6 8)))) ∷
    (calls.Do (events.Start 0), reply 0 (said.Done (answers.Started true 0 1 1))) ∷
    (calls.Do (events.Read 0 0 0 1), reply 0 (said.Done (answers.Bytes (0 ∷ [])))) ∷
    (calls.Do (events.Read 0 1 0 1), reply 0 (said.Done (answers.Bytes (0 ∷ [])))) ∷
    (calls.Do (events.Read 0 2 0 1), reply 0 (said.Done (answers.Bytes (0 ∷ [])))) ∷
    (calls.Do (events.Read 0 3 0 1), reply 0 (said.Done (answers.Bytes (0 ∷ [])))) ∷
    (calls.Do (events.Read 0 4 0 1), reply 0 (said.Done (answers.Bytes (0 ∷ [])))) ∷
    (calls.Do events.Rebalance, reply 0 (said.Done (answers.Rebalanced 3 3))) ∷
    (calls.Do (events.Ask 0), reply 0 (said.Done (answers.Goal 4 0 0))) ∷
    (calls.Do (events.Lend 0 4), reply 0 (said.Done (answers.Lent 1 4))) ∷
    (calls.Do (events.Lend 0 3), reply 0 (said.Done (answers.Lent 2 4))) ∷
    (calls.Do (events.Lend 0 3), reply 0 (said.Refused refusals.LentAlready)) ∷
    (calls.Do (events.Write 0 4 2 (127 ∷ [])), reply 0 (said.Done answers.Done)) ∷
    (calls.Do (events.Read 0 4 0 4), reply 0 (said.Done (answers.Bytes (0 ∷ 0 ∷ 127 ∷ 0 ∷ [])))) ∷
    (calls.OfPage 0 4, reply 0 (said.Page (states.Private 4))) ∷
    (calls.Do (events.Ask 0), reply 0 (said.Done (answers.Reset 1))) ∷
    (calls.Do (events.TakeBack 0 3), reply 0 (said.Refused refusals.NotLent)) ∷
    (calls.Do (events.Ask 0), reply 0 (said.Done (answers.Goal 4 0 1))) ∷
    (calls.Do (events.Read 0 3 0 1), reply 0 (said.Done (answers.Bytes (0 ∷ [])))) ∷
    (calls.OfPage 0 3, reply 0 (said.Page (states.Private 5))) ∷ [])
unfolding replies_of
pop_and_reset = refl

-- Nothing is to be lent.
pub over_goal : AreAnswered (site 8 16 8 75 6 4 2 1 16777216) (
    (calls.Do (events.Admit 0 (spec 2 8 1 1000 4)), reply 0 (said.Done (answers.Admitted (reserved 3 8 6 8)))) ∷
    (calls.Do (events.Start 0), reply 0 (said.Done (answers.Started true 0 1 1))) ∷
    (calls.Do (events.Lend 0 0), reply 0 (said.Refused refusals.OverGoal)) ∷ [])
unfolding replies_of
over_goal = refl

-- A reset is undone, and another call has it.
pub undo_of_reset : AreAnswered (site 8 16 8 75 6 4 2 1 16777216) (
    (calls.Do (events.Admit 0 (spec 2 8 1 1000 4)), reply 0 (said.Done (answers.Admitted (reserved 3 8 6 8)))) ∷
    (calls.Do (events.Start 0), reply 0 (said.Done (answers.Started true 0 1 1))) ∷
    (calls.Do (events.Read 0 0 0 1), reply 0 (said.Done (answers.Bytes (0 ∷ [])))) ∷
    (calls.Do (events.Read 0 1 0 1), reply 0 (said.Done (answers.Bytes (0 ∷ [])))) ∷
    (calls.Do (events.Read 0 2 0 1), reply 0 (said.Done (answers.Bytes (0 ∷ [])))) ∷
    (calls.Do (events.Read 0 3 0 1), reply 0 (said.Done (answers.Bytes (0 ∷ [])))) ∷
    (calls.Do (events.Read 0 4 0 1), reply 0 (said.Done (answers.Bytes (0 ∷ [])))) ∷
    (calls.Do events.Rebalance, reply 0 (said.Done (answers.Rebalanced 3 3))) ∷
    (calls.Do (events.Ask 0), reply 0 (said.Done (answers.Goal 4 0 0))) ∷
    (calls.Do (events.Lend 0 4), reply 0 (said.Done (answers.Lent 1 4))) ∷
    (calls.Do (events.Lend 0 3), reply 0 (said.Done (answers.Lent 2 4))) ∷
    (calls.Do (events.Lend 0 3), reply 0 (said.Refused refusals.LentAlready)) ∷
    (calls.Do (events.Write 0 4 2 (127 ∷ [])), reply 0 (said.Done answers.Done)) ∷
    (calls.Do (events.Read 0 4 0 4), reply 0 (said.Done (answers.Bytes (0 ∷ 0 ∷ 127 ∷ 0 ∷ [])))) ∷
    (calls.OfPage 0 4, reply 0 (said.Page (states.Private 4))) ∷
    (calls.Do (events.Ask 0), reply 0 (said.Done (answers.Reset 1))) ∷
    (calls.Undo 1, reply 1 (said.Stand (stand 13 13))) ∷
    (calls.OfPage 0 3, reply 1 (said.Page states.Lent)) ∷
    (calls.Do (events.TakeBack 0 3), reply 1 (said.Done (answers.Reset 1))) ∷
    (calls.OfPage 0 3, reply 1 (said.Page states.Untouched)) ∷
    (calls.Stand, reply 1 (said.Stand (stand 15 14))) ∷ [])
unfolding replies_of
undo_of_reset = refl

-- A page that is lent, and a balloon that lends all it is to lend.
pub lent_before_goal : AreAnswered (site 8 16 8 75 6 4 2 1 16777216) (
    (calls.Do (events.Admit 0 (spec 2 8 1 1000 2)), reply 0 (said.Done (answers.Admitted (reserved 3 8 6 8)))) ∷
    (calls.Do (events.Start 0), reply 0 (said.Done (answers.Started true 0 1 1))) ∷
    (calls.Do (events.Read 0 0 0 1), reply 0 (said.Done (answers.Bytes (0 ∷ [])))) ∷
    (calls.Do (events.Read 0 1 0 1), reply 0 (said.Done (answers.Bytes (0 ∷ [])))) ∷
    (calls.Do (events.Read 0 2 0 1), reply 0 (said.Done (answers.Bytes (0 ∷ [])))) ∷
    (calls.Do (events.Read 0 3 0 1), reply 0 (said.Done (answers.Bytes (0 ∷ [])))) ∷
    (calls.Do (events.Read 0 4 0 1), reply 0 (said.Done (answers.Bytes (0 ∷ [])))) ∷
    (calls.Do events.Rebalance, reply 0 (said.Done (answers.Rebalanced 3 3))) ∷
    (calls.Do (events.Lend 0 4), reply 0 (said.Done (answers.Lent 1 2))) ∷
    (calls.Do (events.Lend 0 3), reply 0 (said.Done (answers.Lent 2 2))) ∷
    (calls.Do (events.Lend 0 3), reply 0 (said.Refused refusals.LentAlready)) ∷
    (calls.Do (events.Lend 0 2), reply 0 (said.Refused refusals.OverGoal)) ∷
    (calls.Do (events.TakeBack 0 4), reply 0 (said.Done (answers.TakenBack 1))) ∷
    (calls.OfPage 0 4, reply 0 (said.Page states.Untouched)) ∷ [])
unfolding replies_of
lent_before_goal = refl

-- A page that is lent is brought by a Replace, which is no access.
pub replacing_pops : AreAnswered (site 8 16 8 75 6 4 2 1 16777216) (
    (calls.Do (events.Admit 0 (spec 3 7 1 1000 4)), reply 0 (said.Done (answers.Admitted (reserved 4 8 4 8)))) ∷
    (calls.Do (events.Admit 1 (spec 3 6 1 1000 0)), reply 0 (said.Done (answers.Admitted (reserved 8 8 7 8)))) ∷
    (calls.Do (events.Start 0), reply 0 (said.Done (answers.Started true 0 1 1))) ∷
    (calls.Do (events.Start 1), reply 0 (said.Done (answers.Started true 1 1 1))) ∷
    (calls.Do (events.Read 0 0 0 1), reply 0 (said.Done (answers.Bytes (0 ∷ [])))) ∷
    (calls.Do (events.Read 0 1 0 1), reply 0 (said.Done (answers.Bytes (0 ∷ [])))) ∷
    (calls.Do (events.Write 0 2 0 (42 ∷ [])), reply 0 (said.Done answers.Done)) ∷
    (calls.Do (events.Read 1 0 0 1), reply 0 (said.Done (answers.Bytes (0 ∷ [])))) ∷
    (calls.Do (events.Read 1 1 0 1), reply 0 (said.Done (answers.Bytes (0 ∷ [])))) ∷
    (calls.Do (events.Read 1 2 0 1), reply 0 (said.Done (answers.Bytes (0 ∷ [])))) ∷
    (calls.Do events.Rebalance, reply 0 (said.Done (answers.Rebalanced 5 0))) ∷
    (calls.Do (events.Lend 0 2), reply 0 (said.Done (answers.Lent 1 4))) ∷
    (calls.Do (events.Read 0 3 0 1), reply 0 (said.Done (answers.Bytes (0 ∷ [])))) ∷
    (calls.Advise 0 2, reply 0 (said.Help helps.Replace)) ∷
    (calls.Do (events.Sample 0 3 (2 ∷ 3 ∷ [])), reply 0 (said.Done (answers.Opened 3 2))) ∷
    (calls.Do (events.Replace 0 2 0), reply 0 (said.Done (answers.Replaced 0 0 2))) ∷
    (calls.OfVm 0, reply 0 (said.Activity (activity 65536 65536 65536 0 3 0 2))) ∷
    (calls.OfPage 0 0, reply 0 (said.Page (states.Out 0))) ∷
    (calls.Do (events.Read 0 2 0 1), reply 0 (said.Done (answers.Bytes (0 ∷ [])))) ∷
    (calls.OfVm 0, reply 0 (said.Activity (activity 65536 65536 65536 1 3 1 2))) ∷
    (calls.Do (events.TakeBack 0 2), reply 0 (said.Done (answers.Reset 1))) ∷
    (calls.Do (events.Ask 0), reply 0 (said.Done (answers.Goal 4 0 1))) ∷ [])
unfolding replies_of
replacing_pops = refl
