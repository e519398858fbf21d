-- Worked examples, by computation: calls of a console from the opening on, each with its reply.
use Rattle.std.specs.Prelude.{[], ◌∷◌, true}
use Rattle.std.proofs.Common.{refl}
use Rattle.esx_types.specs.declared.level.Level.TheVariants as levels
use Rattle.esx_types.specs.declared.vm.VmState.TheVariants as vm_states
use Rattle.esx_events.specs.declared.event.Event.TheVariants as events
use Rattle.esx_events.specs.declared.event.Answer.TheVariants as answers
use Rattle.esx_events.specs.declared.event.Refusal.TheVariants as refusals
use Rattle.esx_events.specs.declared.call.Call.TheVariants as calls
use Rattle.esx_events.specs.declared.call.Said.TheVariants as said
use Rattle.esx_events.specs.declared.call.PageState.TheVariants as states
use Rattle.esx_events.specs.declared.call.Help.TheVariants as helps
use Rattle.esx_model.proofs.rows.Replies.{site, spec, reserved, sum, table_row, reply, replies_of, AreAnswered}

-- No paging while the balloon may lend.
pub balloon_first : AreAnswered (site 8 16 8 75 6 4 2 1 16777216) (
    (calls.Do (events.Admit 0 (spec 2 8 1 1000 4)), reply 0 (said.Done (answers.Admitted (reserved 3 8 6 8)))) ∷
    (calls.Do (events.Start 0), reply 0 (said.Done (answers.Started true 0 1 1))) ∷
    (calls.Do (events.Read 0 0 0 1), reply 0 (said.Done (answers.Bytes (0 ∷ [])))) ∷
    (calls.Do (events.Read 0 1 0 1), reply 0 (said.Done (answers.Bytes (0 ∷ [])))) ∷
    (calls.Do (events.Read 0 2 0 1), reply 0 (said.Done (answers.Bytes (0 ∷ [])))) ∷
    (calls.Do (events.Read 0 3 0 1), reply 0 (said.Done (answers.Bytes (0 ∷ [])))) ∷
    (calls.Do (events.SwapOut 0 0), reply 0 (said.Refused (refusals.NotNow levels.High))) ∷
    (calls.Do (events.Read 0 4 0 1), reply 0 (said.Done (answers.Bytes (0 ∷ [])))) ∷
    (calls.Do (events.SwapOut 0 0), reply 0 (said.Refused (refusals.NotNow levels.Soft))) ∷ [])
unfolding replies_of
balloon_first = refl

-- Paging up to the target, and a machine that may not go while pages are out.
pub without_balloon : AreAnswered (site 8 16 8 75 6 4 2 1 16777216) (
    (calls.Do (events.Admit 0 (spec 2 8 1 1000 0)), reply 0 (said.Done (answers.Admitted (reserved 3 8 6 8)))) ∷
    (calls.Do (events.Start 0), reply 0 (said.Done (answers.Started true 0 1 1))) ∷
    (calls.Do (events.Read 0 0 0 1), reply 0 (said.Done (answers.Bytes (0 ∷ [])))) ∷
    (calls.Do (events.Read 0 1 0 1), reply 0 (said.Done (answers.Bytes (0 ∷ [])))) ∷
    (calls.Do (events.Read 0 2 0 1), reply 0 (said.Done (answers.Bytes (0 ∷ [])))) ∷
    (calls.Do (events.Read 0 3 0 1), reply 0 (said.Done (answers.Bytes (0 ∷ [])))) ∷
    (calls.Do (events.Read 0 4 0 1), reply 0 (said.Done (answers.Bytes (0 ∷ [])))) ∷
    (calls.Do (events.SwapOut 0 7), reply 0 (said.Refused refusals.AtTarget)) ∷
    (calls.Do events.Rebalance, reply 0 (said.Done (answers.Rebalanced 3 3))) ∷
    (calls.Do (events.SwapOut 0 7), reply 0 (said.Done (answers.PagedOut 2 0))) ∷
    (calls.Do (events.SwapOut 0 7), reply 0 (said.Done (answers.PagedOut 4 1))) ∷
    (calls.Do (events.SwapOut 0 7), reply 0 (said.Done (answers.PagedOut 1 2))) ∷
    (calls.Do (events.SwapOut 0 7), reply 0 (said.Refused (refusals.NotNow levels.High))) ∷
    (calls.Do events.Rebalance, reply 0 (said.Done (answers.Rebalanced 0 0))) ∷
    (calls.Table, reply 0 (said.Table (table_row 0 vm_states.Running 2 8 8 2 0 3 1000 65536 ∷ []) (sum 1 2 0 5 levels.High))) ∷
    (calls.Do (events.Stop 0), reply 0 (said.Done answers.Done)) ∷
    (calls.Do (events.DropPage 0 0), reply 0 (said.Done answers.Done)) ∷
    (calls.Do (events.DropPage 0 3), reply 0 (said.Done answers.Done)) ∷
    (calls.Do (events.Gone 0), reply 0 (said.Refused refusals.PagesLeft)) ∷ [])
unfolding replies_of
without_balloon = refl

-- Pages that make room for others of their machine.
pub replacing : AreAnswered (site 8 16 8 75 6 4 2 1 16777216) (
    (calls.Do (events.Admit 0 (spec 3 6 1 1000 0)), reply 0 (said.Done (answers.Admitted (reserved 4 8 3 8)))) ∷
    (calls.Do (events.Admit 1 (spec 3 6 1 1000 0)), reply 0 (said.Done (answers.Admitted (reserved 8 8 6 8)))) ∷
    (calls.Do (events.Start 0), reply 0 (said.Done (answers.Started true 0 1 1))) ∷
    (calls.Do (events.Start 1), reply 0 (said.Done (answers.Started true 1 1 1))) ∷
    (calls.Do (events.Write 0 0 0 (170 ∷ [])), reply 0 (said.Done answers.Done)) ∷
    (calls.Do (events.Read 0 1 0 1), reply 0 (said.Done (answers.Bytes (0 ∷ [])))) ∷
    (calls.Do (events.Read 0 2 0 1), reply 0 (said.Done (answers.Bytes (0 ∷ [])))) ∷
    (calls.Do (events.Read 1 0 0 1), reply 0 (said.Done (answers.Bytes (0 ∷ [])))) ∷
    (calls.Do (events.Read 1 1 0 1), reply 0 (said.Done (answers.Bytes (0 ∷ [])))) ∷
    (calls.Do (events.Read 1 2 0 1), reply 0 (said.Done (answers.Bytes (0 ∷ [])))) ∷
    (calls.Do (events.Read 0 3 0 1), reply 0 (said.Refused refusals.Short)) ∷
    (calls.Advise 0 3, reply 0 (said.Help helps.Replace)) ∷
    (calls.Do (events.Replace 0 3 1), reply 0 (said.Done (answers.Replaced 1 0 3))) ∷
    (calls.Do (events.Read 0 3 0 1), reply 0 (said.Done (answers.Bytes (0 ∷ [])))) ∷
    (calls.Do (events.Replace 0 1 0), reply 0 (said.Done (answers.Replaced 0 0 2))) ∷
    (calls.OfPage 0 0, reply 0 (said.Page (states.Out 0))) ∷
    (calls.Do (events.Replace 0 0 1), reply 0 (said.Done (answers.Replaced 2 0 4))) ∷
    (calls.Do (events.Read 0 0 0 1), reply 0 (said.Done (answers.Bytes (170 ∷ [])))) ∷
    (calls.Do (events.Replace 0 0 1), reply 0 (said.Refused refusals.NotNeeded)) ∷ [])
unfolding replies_of
replacing = refl

-- What advice names leads to the write.
pub advice : AreAnswered (site 8 16 8 75 6 4 2 1 16777216) (
    (calls.Do (events.Admit 0 (spec 1 8 1 1000 0)), reply 0 (said.Done (answers.Admitted (reserved 2 8 7 8)))) ∷
    (calls.Do (events.Start 0), reply 0 (said.Done (answers.Started true 0 1 1))) ∷
    (calls.Do (events.Read 0 0 0 1), reply 0 (said.Done (answers.Bytes (0 ∷ [])))) ∷
    (calls.Do (events.Read 0 1 0 1), reply 0 (said.Done (answers.Bytes (0 ∷ [])))) ∷
    (calls.Do (events.Read 0 2 0 1), reply 0 (said.Done (answers.Bytes (0 ∷ [])))) ∷
    (calls.Do (events.Read 0 3 0 1), reply 0 (said.Done (answers.Bytes (0 ∷ [])))) ∷
    (calls.Do (events.Read 0 4 0 1), reply 0 (said.Done (answers.Bytes (0 ∷ [])))) ∷
    (calls.Do (events.Read 0 5 0 1), reply 0 (said.Done (answers.Bytes (0 ∷ [])))) ∷
    (calls.Do (events.Read 0 6 0 1), reply 0 (said.Done (answers.Bytes (0 ∷ [])))) ∷
    (calls.Do (events.Read 0 7 0 1), reply 0 (said.Refused refusals.Short)) ∷
    (calls.Advise 0 7, reply 0 (said.Help helps.Rebalance)) ∷
    (calls.Do events.Rebalance, reply 0 (said.Done (answers.Rebalanced 5 5))) ∷
    (calls.Do (events.Read 0 7 0 1), reply 0 (said.Refused refusals.Held)) ∷
    (calls.Advise 0 7, reply 0 (said.Help (helps.SwapOut 0))) ∷
    (calls.Do (events.SwapOut 0 0), reply 0 (said.Done (answers.PagedOut 0 0))) ∷
    (calls.Do (events.SwapOut 0 0), reply 0 (said.Done (answers.PagedOut 1 1))) ∷
    (calls.Do (events.SwapOut 0 0), reply 0 (said.Done (answers.PagedOut 2 2))) ∷
    (calls.Sum, reply 0 (said.Sum (sum 1 4 0 3 levels.Hard))) ∷
    (calls.Advise 0 7, reply 0 (said.Help helps.Go)) ∷
    (calls.Do (events.Read 0 7 0 1), reply 0 (said.Done (answers.Bytes (0 ∷ [])))) ∷
    (calls.OfPage 0 7, reply 0 (said.Page (states.Private 1))) ∷ [])
unfolding replies_of
advice = refl
