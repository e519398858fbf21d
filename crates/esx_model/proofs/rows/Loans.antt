-- Worked examples, by computation: calls from the opening on, each with what is said: loans, resets, and what is paged beside them.
use Rattle.std.specs.Prelude.{[], ◌∷◌, true}
use Rattle.std.proofs.Common.{refl}
use Rattle.esx_types.specs.declared.level.Level.TheVariants as levels
use Rattle.esx_types.specs.declared.vm.VmState.TheVariants as vm_states
use Rattle.esx_events.specs.declared.event.Event.TheVariants as events
use Rattle.esx_events.specs.declared.event.Answer.TheVariants as answers
use Rattle.esx_events.specs.declared.event.Refusal.TheVariants as refusals
use Rattle.esx_events.specs.declared.call.Call.TheVariants as calls
use Rattle.esx_events.specs.declared.call.Said.TheVariants as said
use Rattle.esx_events.specs.declared.call.PageState.TheVariants as states
use Rattle.esx_model.proofs.rows.Replies.{site, spec, reserved, sum, table_row}
use Rattle.esx_model.proofs.rows.Told.{told_of, AreTold}

-- What a machine lends: a page that is out, one that is nowhere; the goal that its target leaves.
pub loans : AreTold (site 8 16 8 75 6 4 2 1 16777216) (
    (calls.Do (events.Admit 0 (spec 1 8 1 1000 7)), said.Done (answers.Admitted (reserved 2 8 7 8))) ∷
    (calls.Do (events.Start 0), said.Done (answers.Started true 0 1 1)) ∷
    (calls.Do (events.Read 0 0 0 1), said.Done (answers.Bytes (0 ∷ []))) ∷
    (calls.Do (events.Read 0 1 0 1), said.Done (answers.Bytes (0 ∷ []))) ∷
    (calls.Do (events.Read 0 2 0 1), said.Done (answers.Bytes (0 ∷ []))) ∷
    (calls.Do (events.Read 0 3 0 1), said.Done (answers.Bytes (0 ∷ []))) ∷
    (calls.Do (events.Read 0 4 0 1), said.Done (answers.Bytes (0 ∷ []))) ∷
    (calls.Do (events.Read 0 5 0 1), said.Done (answers.Bytes (0 ∷ []))) ∷
    (calls.Do events.Rebalance, said.Done (answers.Rebalanced 4 4)) ∷
    (calls.Do (events.Ask 0), said.Done (answers.Goal 6 0 0)) ∷
    (calls.Do (events.SwapOut 0 0), said.Done (answers.PagedOut 0 0)) ∷
    (calls.OfPage 0 0, said.Page (states.Out 0)) ∷
    (calls.Do (events.Lend 0 0), said.Done (answers.Lent 1 6)) ∷
    (calls.Do (events.Lend 0 7), said.Done (answers.Lent 2 6)) ∷
    (calls.Do (events.Lend 0 1), said.Done (answers.Lent 3 6)) ∷
    (calls.Do (events.Ask 0), said.Done (answers.Goal 6 3 0)) ∷
    (calls.Table, said.Table (table_row 0 vm_states.Running 1 8 2 4 3 0 1000 65536 ∷ []) (sum 1 4 0 3 levels.Hard)) ∷
    (calls.OfPage 0 0, said.Page states.Lent) ∷
    (calls.OfPage 0 1, said.Page states.Lent) ∷
    (calls.Sum, said.Sum (sum 1 4 0 3 levels.Hard)) ∷ [])
unfolding told_of
loans = refl

-- A reset that is due is the one effect of a lend, and stays due through a refusal that comes before it; after it the loans of earlier epochs are none.
pub reset_due : AreTold (site 8 16 8 75 6 4 2 1 16777216) (
    (calls.Do (events.Admit 0 (spec 2 8 1 1000 4)), said.Done (answers.Admitted (reserved 3 8 6 8))) ∷
    (calls.Do (events.Start 0), said.Done (answers.Started true 0 1 1)) ∷
    (calls.Do (events.Read 0 0 0 1), said.Done (answers.Bytes (0 ∷ []))) ∷
    (calls.Do (events.Read 0 1 0 1), said.Done (answers.Bytes (0 ∷ []))) ∷
    (calls.Do (events.Read 0 2 0 1), said.Done (answers.Bytes (0 ∷ []))) ∷
    (calls.Do (events.Read 0 3 0 1), said.Done (answers.Bytes (0 ∷ []))) ∷
    (calls.Do (events.Read 0 4 0 1), said.Done (answers.Bytes (0 ∷ []))) ∷
    (calls.Do events.Rebalance, said.Done (answers.Rebalanced 3 3)) ∷
    (calls.Do (events.Lend 0 4), said.Done (answers.Lent 1 4)) ∷
    (calls.Do (events.Lend 0 3), said.Done (answers.Lent 2 4)) ∷
    (calls.Do (events.Read 0 4 0 1), said.Done (answers.Bytes (0 ∷ []))) ∷
    (calls.Do (events.Read 0 0 0 1), said.Done (answers.Bytes (0 ∷ []))) ∷
    (calls.Do (events.Lend 0 8), said.Refused refusals.OutOfRange) ∷
    (calls.Do (events.TakeBack 0 8), said.Refused refusals.OutOfRange) ∷
    (calls.Do (events.Lend 0 2), said.Done (answers.Reset 1)) ∷
    (calls.OfPage 0 2, said.Page (states.Private 3)) ∷
    (calls.OfPage 0 3, said.Page states.Untouched) ∷
    (calls.Do (events.Ask 0), said.Done (answers.Goal 4 0 1)) ∷
    (calls.Do (events.Lend 0 2), said.Done (answers.Lent 1 4)) ∷
    (calls.Do (events.Lend 0 3), said.Done (answers.Lent 2 4)) ∷
    (calls.Do (events.Ask 0), said.Done (answers.Goal 4 2 1)) ∷
    (calls.Table, said.Table (table_row 0 vm_states.Running 2 8 2 3 2 0 1000 65536 ∷ []) (sum 1 3 0 4 levels.Soft)) ∷
    (calls.Do (events.TakeBack 0 3), said.Done (answers.TakenBack 1)) ∷
    (calls.Do (events.TakeBack 0 3), said.Refused refusals.NotLent) ∷
    (calls.Do (events.Read 0 3 0 1), said.Done (answers.Bytes (0 ∷ []))) ∷
    (calls.Do (events.Ask 0), said.Done (answers.Goal 4 1 1)) ∷ [])
unfolding told_of
reset_due = refl

-- A machine that stops has no reset any more; a page that it lent does not keep it.
pub loan_at_a_stop : AreTold (site 8 16 8 75 6 4 2 1 16777216) (
    (calls.Do (events.Admit 0 (spec 2 8 1 1000 4)), said.Done (answers.Admitted (reserved 3 8 6 8))) ∷
    (calls.Do (events.Start 0), said.Done (answers.Started true 0 1 1)) ∷
    (calls.Do (events.Read 0 0 0 1), said.Done (answers.Bytes (0 ∷ []))) ∷
    (calls.Do (events.Read 0 1 0 1), said.Done (answers.Bytes (0 ∷ []))) ∷
    (calls.Do (events.Read 0 2 0 1), said.Done (answers.Bytes (0 ∷ []))) ∷
    (calls.Do (events.Read 0 3 0 1), said.Done (answers.Bytes (0 ∷ []))) ∷
    (calls.Do (events.Read 0 4 0 1), said.Done (answers.Bytes (0 ∷ []))) ∷
    (calls.Do events.Rebalance, said.Done (answers.Rebalanced 3 3)) ∷
    (calls.Do (events.Lend 0 4), said.Done (answers.Lent 1 4)) ∷
    (calls.Do (events.Lend 0 3), said.Done (answers.Lent 2 4)) ∷
    (calls.Do (events.Read 0 4 0 1), said.Done (answers.Bytes (0 ∷ []))) ∷
    (calls.Do (events.Stop 0), said.Done answers.Done) ∷
    (calls.Do (events.Ask 0), said.Refused refusals.NotRunning) ∷
    (calls.Do (events.Lend 0 0), said.Refused refusals.NotRunning) ∷
    (calls.Do (events.DropPage 0 0), said.Done answers.Done) ∷
    (calls.Do (events.DropPage 0 1), said.Done answers.Done) ∷
    (calls.Do (events.DropPage 0 2), said.Done answers.Done) ∷
    (calls.Do (events.DropPage 0 4), said.Done answers.Done) ∷
    (calls.OfPage 0 3, said.Page states.Lent) ∷
    (calls.Do (events.DropPage 0 3), said.Refused refusals.NotNeeded) ∷
    (calls.Table, said.Table (table_row 0 vm_states.Stopping 2 8 2 0 1 0 1000 65536 ∷ []) (sum 1 0 0 7 levels.High)) ∷
    (calls.Do (events.Gone 0), said.Done answers.Gone) ∷ [])
unfolding told_of
loan_at_a_stop = refl

-- At Soft a machine is paged where its balloon lends all it ever can.
pub paged_beside_the_balloon : AreTold (site 8 16 8 75 6 4 2 1 16777216) (
    (calls.Do (events.Admit 0 (spec 1 8 1 1000 2)), said.Done (answers.Admitted (reserved 2 8 7 8))) ∷
    (calls.Do (events.Start 0), said.Done (answers.Started true 0 1 1)) ∷
    (calls.Do (events.Read 0 0 0 1), said.Done (answers.Bytes (0 ∷ []))) ∷
    (calls.Do (events.Read 0 1 0 1), said.Done (answers.Bytes (0 ∷ []))) ∷
    (calls.Do (events.Read 0 2 0 1), said.Done (answers.Bytes (0 ∷ []))) ∷
    (calls.Do (events.Read 0 3 0 1), said.Done (answers.Bytes (0 ∷ []))) ∷
    (calls.Do (events.Read 0 4 0 1), said.Done (answers.Bytes (0 ∷ []))) ∷
    (calls.Do events.Rebalance, said.Done (answers.Rebalanced 3 3)) ∷
    (calls.Do (events.Lend 0 4), said.Done (answers.Lent 1 2)) ∷
    (calls.Do (events.SwapOut 0 0), said.Refused (refusals.NotNow levels.Soft)) ∷
    (calls.Do (events.Lend 0 3), said.Done (answers.Lent 2 2)) ∷
    (calls.Do (events.SwapOut 0 0), said.Done (answers.PagedOut 0 0)) ∷ [])
unfolding told_of
paged_beside_the_balloon = refl

-- And where it stopped.
pub paged_at_a_stop : AreTold (site 8 16 8 75 6 4 2 1 16777216) (
    (calls.Do (events.Admit 0 (spec 1 8 1 1000 2)), said.Done (answers.Admitted (reserved 2 8 7 8))) ∷
    (calls.Do (events.Start 0), said.Done (answers.Started true 0 1 1)) ∷
    (calls.Do (events.Read 0 0 0 1), said.Done (answers.Bytes (0 ∷ []))) ∷
    (calls.Do (events.Read 0 1 0 1), said.Done (answers.Bytes (0 ∷ []))) ∷
    (calls.Do (events.Read 0 2 0 1), said.Done (answers.Bytes (0 ∷ []))) ∷
    (calls.Do (events.Read 0 3 0 1), said.Done (answers.Bytes (0 ∷ []))) ∷
    (calls.Do (events.Read 0 4 0 1), said.Done (answers.Bytes (0 ∷ []))) ∷
    (calls.Do events.Rebalance, said.Done (answers.Rebalanced 3 3)) ∷
    (calls.Do (events.SwapOut 0 0), said.Refused (refusals.NotNow levels.Soft)) ∷
    (calls.Do (events.Stop 0), said.Done answers.Done) ∷
    (calls.Do (events.SwapOut 0 0), said.Done (answers.PagedOut 0 0)) ∷ [])
unfolding told_of
paged_at_a_stop = refl
