-- Worked examples, by computation: calls from the opening on, each with what is said: activity, and who pays.
use Rattle.std.specs.Prelude.{[], ◌∷◌, true, replicate}
use Rattle.std.proofs.Common.{refl}
use Rattle.esx_types.specs.declared.level.Level.TheVariants as levels
use Rattle.esx_types.specs.declared.vm.VmState.TheVariants as vm_states
use Rattle.esx_events.specs.declared.event.Event.TheVariants as events
use Rattle.esx_events.specs.declared.event.Answer.TheVariants as answers
use Rattle.esx_events.specs.declared.event.Refusal.TheVariants as refusals
use Rattle.esx_events.specs.declared.call.Call.TheVariants as calls
use Rattle.esx_events.specs.declared.call.Said.TheVariants as said
use Rattle.esx_events.specs.declared.call.Help.TheVariants as helps
use Rattle.esx_model.proofs.rows.Replies.{site, spec, reserved, sum, activity, table_row}
use Rattle.esx_model.proofs.rows.Told.{told_of, AreTold}

-- A sample has 1 to 100 pages and a length of 1 to 1048576; bad words are told before an open period.
pub samples_in_range : AreTold (site 20 16 8 75 6 4 2 1 16777216) (
    (calls.Do (events.Admit 0 (spec 2 6 1 1000 0)), said.Done (answers.Admitted (reserved 3 20 4 8))) ∷
    (calls.Do (events.Start 0), said.Done (answers.Started true 0 1 1)) ∷
    (calls.Do (events.Sample 0 1048577 (0 ∷ [])), said.Refused refusals.BadWords) ∷
    (calls.Do (events.Sample 0 1 (replicate 101 1)), said.Refused refusals.BadWords) ∷
    (calls.Do (events.Sample 0 1048576 (replicate 100 1)), said.Done (answers.Opened 1048576 100)) ∷
    (calls.Do (events.Sample 0 0 (0 ∷ [])), said.Refused refusals.BadWords) ∷
    (calls.Do (events.Sample 0 1 (0 ∷ [])), said.Refused refusals.SampleOpen) ∷
    (calls.OfVm 0, said.Activity (activity 65536 65536 65536 0 1048576 0 100)) ∷
    (calls.Do (events.Stop 0), said.Done answers.Done) ∷
    (calls.OfVm 0, said.Activity (activity 65536 65536 65536 0 0 0 0)) ∷ [])
unfolding told_of
samples_in_range = refl

-- A machine that was idle for some periods and is not in the open one; an access to a page that was not drawn counts.
pub open_period_is_active : AreTold (site 20 16 8 75 6 4 2 1 16777216) (
    (calls.Do (events.Admit 0 (spec 2 6 1 1000 0)), said.Done (answers.Admitted (reserved 3 20 4 8))) ∷
    (calls.Do (events.Start 0), said.Done (answers.Started true 0 1 1)) ∷
    (calls.Do (events.Read 0 0 0 1), said.Done (answers.Bytes (0 ∷ []))) ∷
    (calls.Do (events.Sample 0 1 (1 ∷ [])), said.Done (answers.Opened 1 1)) ∷
    (calls.Do (events.Read 0 0 0 1), said.Done (answers.Bytes (0 ∷ []))) ∷
    (calls.Do (events.Sample 0 1 (1 ∷ [])), said.Done (answers.Opened 1 1)) ∷
    (calls.Do (events.Read 0 0 0 1), said.Done (answers.Bytes (0 ∷ []))) ∷
    (calls.Do (events.Sample 0 1 (1 ∷ [])), said.Done (answers.Opened 1 1)) ∷
    (calls.Do (events.Read 0 0 0 1), said.Done (answers.Bytes (0 ∷ []))) ∷
    (calls.Do (events.Sample 0 1 (1 ∷ [])), said.Done (answers.Opened 1 1)) ∷
    (calls.Do (events.Read 0 0 0 1), said.Done (answers.Bytes (0 ∷ []))) ∷
    (calls.Do (events.Sample 0 1 (1 ∷ [])), said.Done (answers.Opened 1 1)) ∷
    (calls.Do (events.Read 0 0 0 1), said.Done (answers.Bytes (0 ∷ []))) ∷
    (calls.OfVm 0, said.Activity (activity 33614 2048 33614 0 0 0 0)) ∷
    (calls.Do (events.Sample 0 3 (0 ∷ [])), said.Done (answers.Opened 3 1)) ∷
    (calls.Do (events.Read 0 2 0 1), said.Done (answers.Bytes (0 ∷ []))) ∷
    (calls.OfVm 0, said.Activity (activity 33614 2048 33614 1 3 0 1)) ∷
    (calls.Do (events.Write 0 0 0 (1 ∷ [])), said.Done answers.Done) ∷
    (calls.OfVm 0, said.Activity (activity 33614 2048 33792 2 3 1 1)) ∷
    (calls.Table, said.Table (table_row 0 vm_states.Running 2 6 6 2 0 0 1000 33792 ∷ []) (sum 1 2 0 17 levels.High)) ∷ [])
unfolding told_of
open_period_is_active = refl

-- Who pays hangs on shares, on activity, on the tax and on the least that each keeps; machines by their own numbers.
pub who_pays : AreTold (site 12 16 8 75 6 4 2 1 16777216) (
    (calls.Do (events.Admit 1 (spec 1 4 1 1000 0)), said.Done (answers.Admitted (reserved 2 12 3 8))) ∷
    (calls.Do (events.Admit 3 (spec 2 4 1 500 0)), said.Done (answers.Admitted (reserved 5 12 5 8))) ∷
    (calls.Do (events.Start 1), said.Done (answers.Started true 0 1 1)) ∷
    (calls.Do (events.Start 3), said.Done (answers.Started true 1 1 1)) ∷
    (calls.Do (events.Read 1 0 0 1), said.Done (answers.Bytes (0 ∷ []))) ∷
    (calls.Do (events.Read 1 1 0 1), said.Done (answers.Bytes (0 ∷ []))) ∷
    (calls.Do (events.Read 1 2 0 1), said.Done (answers.Bytes (0 ∷ []))) ∷
    (calls.Do (events.Read 1 3 0 1), said.Done (answers.Bytes (0 ∷ []))) ∷
    (calls.Do (events.Read 3 0 0 1), said.Done (answers.Bytes (0 ∷ []))) ∷
    (calls.Do (events.Read 3 1 0 1), said.Done (answers.Bytes (0 ∷ []))) ∷
    (calls.Do (events.Read 3 2 0 1), said.Done (answers.Bytes (0 ∷ []))) ∷
    (calls.Do (events.Read 3 3 0 1), said.Done (answers.Bytes (0 ∷ []))) ∷
    (calls.Do events.Rebalance, said.Done (answers.Rebalanced 3 3)) ∷
    (calls.Table, said.Table (table_row 1 vm_states.Running 1 4 3 4 0 0 1000 65536 ∷ table_row 3 vm_states.Running 2 4 2 4 0 0 500 65536 ∷ []) (sum 2 8 0 2 levels.Soft)) ∷
    (calls.Do (events.Sample 1 1 (0 ∷ [])), said.Done (answers.Opened 1 1)) ∷
    (calls.Do (events.Read 1 1 0 1), said.Done (answers.Bytes (0 ∷ []))) ∷
    (calls.Do (events.Sample 1 1 (0 ∷ [])), said.Done (answers.Opened 1 1)) ∷
    (calls.Do (events.Read 1 1 0 1), said.Done (answers.Bytes (0 ∷ []))) ∷
    (calls.Do (events.Sample 1 1 (0 ∷ [])), said.Done (answers.Opened 1 1)) ∷
    (calls.Do (events.Read 1 1 0 1), said.Done (answers.Bytes (0 ∷ []))) ∷
    (calls.Do (events.Sample 1 1 (0 ∷ [])), said.Done (answers.Opened 1 1)) ∷
    (calls.Do (events.Read 1 1 0 1), said.Done (answers.Bytes (0 ∷ []))) ∷
    (calls.Do events.Rebalance, said.Done (answers.Rebalanced 3 3)) ∷
    (calls.Table, said.Table (table_row 1 vm_states.Running 1 4 2 4 0 0 1000 38416 ∷ table_row 3 vm_states.Running 2 4 3 4 0 0 500 65536 ∷ []) (sum 2 8 0 2 levels.Soft)) ∷
    (calls.Do (events.SetTax 0), said.Done answers.Done) ∷
    (calls.Do events.Rebalance, said.Done (answers.Rebalanced 3 3)) ∷
    (calls.Table, said.Table (table_row 1 vm_states.Running 1 4 3 4 0 0 1000 38416 ∷ table_row 3 vm_states.Running 2 4 2 4 0 0 500 65536 ∷ []) (sum 2 8 0 2 levels.Soft)) ∷
    (calls.Do (events.SetShares 3 2000), said.Done answers.Done) ∷
    (calls.Do events.Rebalance, said.Done (answers.Rebalanced 3 3)) ∷
    (calls.Table, said.Table (table_row 1 vm_states.Running 1 4 1 4 0 0 1000 38416 ∷ table_row 3 vm_states.Running 2 4 4 4 0 0 2000 65536 ∷ []) (sum 2 8 0 2 levels.Soft)) ∷
    (calls.Do (events.SetShares 3 1048576), said.Done answers.Done) ∷
    (calls.Do (events.SetShares 3 1048577), said.Refused refusals.BadSpec) ∷
    (calls.Do (events.SetTax 99), said.Done answers.Done) ∷ [])
unfolding told_of
who_pays = refl

-- Of the machines above their targets advice names the one of least ratio; one at its target is not asked, however few its shares.
pub advice_names_one : AreTold (site 12 16 8 75 6 4 2 1 16777216) (
    (calls.Do (events.Admit 1 (spec 1 5 1 1000 0)), said.Done (answers.Admitted (reserved 2 12 4 8))) ∷
    (calls.Do (events.Admit 3 (spec 2 5 1 500 0)), said.Done (answers.Admitted (reserved 5 12 7 8))) ∷
    (calls.Do (events.Start 1), said.Done (answers.Started true 0 1 1)) ∷
    (calls.Do (events.Start 3), said.Done (answers.Started true 1 1 1)) ∷
    (calls.Do (events.Read 1 0 0 1), said.Done (answers.Bytes (0 ∷ []))) ∷
    (calls.Do (events.Read 1 1 0 1), said.Done (answers.Bytes (0 ∷ []))) ∷
    (calls.Do (events.Read 1 2 0 1), said.Done (answers.Bytes (0 ∷ []))) ∷
    (calls.Do (events.Read 1 3 0 1), said.Done (answers.Bytes (0 ∷ []))) ∷
    (calls.Do (events.Read 1 4 0 1), said.Done (answers.Bytes (0 ∷ []))) ∷
    (calls.Do (events.Read 3 0 0 1), said.Done (answers.Bytes (0 ∷ []))) ∷
    (calls.Do (events.Read 3 1 0 1), said.Done (answers.Bytes (0 ∷ []))) ∷
    (calls.Do (events.Read 3 2 0 1), said.Done (answers.Bytes (0 ∷ []))) ∷
    (calls.Do (events.Read 3 3 0 1), said.Done (answers.Bytes (0 ∷ []))) ∷
    (calls.Do (events.Read 3 4 0 1), said.Done (answers.Bytes (0 ∷ []))) ∷
    (calls.Advise 1 0, said.Help helps.Go) ∷
    (calls.Do events.Rebalance, said.Done (answers.Rebalanced 5 5)) ∷
    (calls.Advise 1 0, said.Help (helps.SwapOut 3)) ∷
    (calls.Do (events.SetShares 1 1), said.Done answers.Done) ∷
    (calls.Advise 1 0, said.Help (helps.SwapOut 1)) ∷
    (calls.Do (events.SwapOut 1 0), said.Done (answers.PagedOut 0 0)) ∷
    (calls.Do (events.SwapOut 1 0), said.Done (answers.PagedOut 1 1)) ∷
    (calls.Advise 1 2, said.Help helps.Go) ∷
    (calls.Advise 3 0, said.Help (helps.SwapOut 3)) ∷ [])
unfolding told_of
advice_names_one = refl

-- What an open period tells so far counts where it is decided who pays.
pub open_period_pays : AreTold (site 12 16 8 75 6 4 2 1 16777216) (
    (calls.Do (events.Admit 1 (spec 1 4 1 2457 0)), said.Done (answers.Admitted (reserved 2 12 3 8))) ∷
    (calls.Do (events.Admit 3 (spec 1 4 1 1000 0)), said.Done (answers.Admitted (reserved 4 12 6 8))) ∷
    (calls.Do (events.Start 1), said.Done (answers.Started true 0 1 1)) ∷
    (calls.Do (events.Start 3), said.Done (answers.Started true 1 1 1)) ∷
    (calls.Do (events.Read 1 0 0 1), said.Done (answers.Bytes (0 ∷ []))) ∷
    (calls.Do (events.Read 1 1 0 1), said.Done (answers.Bytes (0 ∷ []))) ∷
    (calls.Do (events.Read 1 2 0 1), said.Done (answers.Bytes (0 ∷ []))) ∷
    (calls.Do (events.Read 1 3 0 1), said.Done (answers.Bytes (0 ∷ []))) ∷
    (calls.Do (events.Read 3 0 0 1), said.Done (answers.Bytes (0 ∷ []))) ∷
    (calls.Do (events.Read 3 1 0 1), said.Done (answers.Bytes (0 ∷ []))) ∷
    (calls.Do (events.Read 3 2 0 1), said.Done (answers.Bytes (0 ∷ []))) ∷
    (calls.Do (events.Read 3 3 0 1), said.Done (answers.Bytes (0 ∷ []))) ∷
    (calls.Do (events.Sample 1 1 (1 ∷ [])), said.Done (answers.Opened 1 1)) ∷
    (calls.Do (events.Read 1 0 0 1), said.Done (answers.Bytes (0 ∷ []))) ∷
    (calls.Do (events.Sample 1 1 (1 ∷ [])), said.Done (answers.Opened 1 1)) ∷
    (calls.Do (events.Read 1 0 0 1), said.Done (answers.Bytes (0 ∷ []))) ∷
    (calls.Do (events.Sample 1 1 (1 ∷ [])), said.Done (answers.Opened 1 1)) ∷
    (calls.Do (events.Read 1 0 0 1), said.Done (answers.Bytes (0 ∷ []))) ∷
    (calls.Do (events.Sample 1 1 (1 ∷ [])), said.Done (answers.Opened 1 1)) ∷
    (calls.Do (events.Read 1 0 0 1), said.Done (answers.Bytes (0 ∷ []))) ∷
    (calls.Do (events.Sample 1 1 (1 ∷ [])), said.Done (answers.Opened 1 1)) ∷
    (calls.Do (events.Read 1 0 0 1), said.Done (answers.Bytes (0 ∷ []))) ∷
    (calls.Do events.Rebalance, said.Done (answers.Rebalanced 3 3)) ∷
    (calls.Table, said.Table (table_row 1 vm_states.Running 1 4 2 4 0 0 2457 33614 ∷ table_row 3 vm_states.Running 1 4 3 4 0 0 1000 65536 ∷ []) (sum 2 8 0 2 levels.Soft)) ∷
    (calls.Do (events.Sample 1 2 (0 ∷ [])), said.Done (answers.Opened 2 1)) ∷
    (calls.Do (events.Read 1 0 0 1), said.Done (answers.Bytes (0 ∷ []))) ∷
    (calls.Do events.Rebalance, said.Done (answers.Rebalanced 3 3)) ∷
    (calls.Table, said.Table (table_row 1 vm_states.Running 1 4 3 4 0 0 2457 33792 ∷ table_row 3 vm_states.Running 1 4 2 4 0 0 1000 65536 ∷ []) (sum 2 8 0 2 levels.Soft)) ∷ [])
unfolding told_of
open_period_pays = refl

-- A machine that stopped has a target like any other, and is advised to page out.
pub stopped_machine_pays : AreTold (site 8 16 8 75 6 4 2 1 16777216) (
    (calls.Do (events.Admit 0 (spec 1 5 1 1000 0)), said.Done (answers.Admitted (reserved 2 8 4 8))) ∷
    (calls.Do (events.Admit 1 (spec 1 2 1 1000 0)), said.Done (answers.Admitted (reserved 4 8 5 8))) ∷
    (calls.Do (events.Start 0), said.Done (answers.Started true 0 1 1)) ∷
    (calls.Do (events.Read 0 0 0 1), said.Done (answers.Bytes (0 ∷ []))) ∷
    (calls.Do (events.Read 0 1 0 1), said.Done (answers.Bytes (0 ∷ []))) ∷
    (calls.Do (events.Read 0 2 0 1), said.Done (answers.Bytes (0 ∷ []))) ∷
    (calls.Do (events.Read 0 3 0 1), said.Done (answers.Bytes (0 ∷ []))) ∷
    (calls.Do (events.Read 0 4 0 1), said.Done (answers.Bytes (0 ∷ []))) ∷
    (calls.Do (events.Stop 0), said.Done answers.Done) ∷
    (calls.Do events.Rebalance, said.Done (answers.Rebalanced 3 3)) ∷
    (calls.Table, said.Table (table_row 0 vm_states.Stopping 1 5 2 5 0 0 1000 65536 ∷ table_row 1 vm_states.Starting 1 2 1 0 0 0 1000 65536 ∷ []) (sum 1 5 0 2 levels.Soft)) ∷
    (calls.Do (events.Start 1), said.Done (answers.Started true 6 1 1)) ∷
    (calls.Do (events.Read 1 0 0 1), said.Done (answers.Bytes (0 ∷ []))) ∷
    (calls.Advise 1 1, said.Help (helps.SwapOut 0)) ∷
    (calls.Do (events.SwapOut 0 0), said.Done (answers.PagedOut 0 0)) ∷
    (calls.Advise 1 1, said.Help helps.Go) ∷ [])
unfolding told_of
stopped_machine_pays = refl
