-- Worked examples, by computation: calls from the opening on, each with what is said: a machine's own tax.
use Rattle.std.specs.Prelude.{[], ◌∷◌, true, false}
use Rattle.std.proofs.Common.{refl}
use Rattle.esx_types.specs.declared.level.Level.TheVariants as levels
use Rattle.esx_types.specs.declared.vm.VmState.TheVariants as vm_states
use Rattle.esx_events.specs.declared.event.Event.TheVariants as events
use Rattle.esx_events.specs.declared.event.Answer.TheVariants as answers
use Rattle.esx_events.specs.declared.event.Refusal.TheVariants as refusals
use Rattle.esx_events.specs.declared.call.Call.TheVariants as calls
use Rattle.esx_events.specs.declared.call.Said.TheVariants as said
use Rattle.esx_model.proofs.rows.Replies.{site, spec, taxed, reserved, sum, activity, table_row}
use Rattle.esx_model.proofs.rows.Told.{told_of, AreTold}

-- Of machines that use all their memory the tax cancels, each its own: the shares alone tell who pays.
pub tax_of_busy_machines : AreTold (site 20 16 8 75 6 4 2 1 16777216) (
    (calls.Do (events.Admit 0 (taxed (spec 5 9 1 1000 0) 0)), said.Done (answers.Admitted (reserved 6 20 4 8))) ∷
    (calls.Do (events.Admit 1 (taxed (spec 5 9 1 500 0) 75)), said.Done (answers.Admitted (reserved 12 20 8 8))) ∷
    (calls.Do (events.Start 0), said.Done (answers.Started true 0 1 1)) ∷
    (calls.Do (events.Start 1), said.Done (answers.Started true 1 1 1)) ∷
    (calls.Do (events.Read 0 0 0 1), said.Done (answers.Bytes (0 ∷ []))) ∷
    (calls.Do (events.Read 0 1 0 1), said.Done (answers.Bytes (0 ∷ []))) ∷
    (calls.Do (events.Read 0 2 0 1), said.Done (answers.Bytes (0 ∷ []))) ∷
    (calls.Do (events.Read 0 3 0 1), said.Done (answers.Bytes (0 ∷ []))) ∷
    (calls.Do (events.Read 0 4 0 1), said.Done (answers.Bytes (0 ∷ []))) ∷
    (calls.Do (events.Read 0 5 0 1), said.Done (answers.Bytes (0 ∷ []))) ∷
    (calls.Do (events.Read 0 6 0 1), said.Done (answers.Bytes (0 ∷ []))) ∷
    (calls.Do (events.Read 0 7 0 1), said.Done (answers.Bytes (0 ∷ []))) ∷
    (calls.Do (events.Read 1 0 0 1), said.Done (answers.Bytes (0 ∷ []))) ∷
    (calls.Do (events.Read 1 1 0 1), said.Done (answers.Bytes (0 ∷ []))) ∷
    (calls.Do (events.Read 1 2 0 1), said.Done (answers.Bytes (0 ∷ []))) ∷
    (calls.Do (events.Read 1 3 0 1), said.Done (answers.Bytes (0 ∷ []))) ∷
    (calls.Do (events.Read 1 4 0 1), said.Done (answers.Bytes (0 ∷ []))) ∷
    (calls.Do (events.Read 1 5 0 1), said.Done (answers.Bytes (0 ∷ []))) ∷
    (calls.Do (events.Read 1 6 0 1), said.Done (answers.Bytes (0 ∷ []))) ∷
    (calls.Do (events.Read 1 7 0 1), said.Done (answers.Bytes (0 ∷ []))) ∷
    (calls.Do events.Rebalance, said.Done (answers.Rebalanced 3 3)) ∷
    (calls.Table, said.Table (table_row 0 vm_states.Running 5 9 8 8 0 0 1000 65536 ∷ table_row 1 vm_states.Running 5 9 5 8 0 0 500 65536 ∷ []) (sum 2 16 0 2 levels.Soft)) ∷
    (calls.Do (events.SwapOut 0 0), said.Refused refusals.AtTarget) ∷
    (calls.Do (events.SwapOut 1 9), said.Done (answers.PagedOut 1 0)) ∷ [])
unfolding told_of
tax_of_busy_machines = refl

-- A machine is admitted with its own tax: at the site's the idle one would pay two of three pages.
pub admitted_with_its_own : AreTold (site 20 16 8 75 6 4 2 1 16777216) (
    (calls.Do (events.Admit 0 (taxed (spec 5 9 1 1200 0) 0)), said.Done (answers.Admitted (reserved 6 20 4 8))) ∷
    (calls.Do (events.Admit 1 (spec 5 9 1 1000 0)), said.Done (answers.Admitted (reserved 12 20 8 8))) ∷
    (calls.Do (events.Start 0), said.Done (answers.Started true 0 1 1)) ∷
    (calls.Do (events.Start 1), said.Done (answers.Started true 1 1 1)) ∷
    (calls.Do (events.Read 0 0 0 1), said.Done (answers.Bytes (0 ∷ []))) ∷
    (calls.Do (events.Read 0 1 0 1), said.Done (answers.Bytes (0 ∷ []))) ∷
    (calls.Do (events.Read 0 2 0 1), said.Done (answers.Bytes (0 ∷ []))) ∷
    (calls.Do (events.Read 0 3 0 1), said.Done (answers.Bytes (0 ∷ []))) ∷
    (calls.Do (events.Read 0 4 0 1), said.Done (answers.Bytes (0 ∷ []))) ∷
    (calls.Do (events.Read 0 5 0 1), said.Done (answers.Bytes (0 ∷ []))) ∷
    (calls.Do (events.Read 0 6 0 1), said.Done (answers.Bytes (0 ∷ []))) ∷
    (calls.Do (events.Read 0 7 0 1), said.Done (answers.Bytes (0 ∷ []))) ∷
    (calls.Do (events.Read 1 0 0 1), said.Done (answers.Bytes (0 ∷ []))) ∷
    (calls.Do (events.Read 1 1 0 1), said.Done (answers.Bytes (0 ∷ []))) ∷
    (calls.Do (events.Read 1 2 0 1), said.Done (answers.Bytes (0 ∷ []))) ∷
    (calls.Do (events.Read 1 3 0 1), said.Done (answers.Bytes (0 ∷ []))) ∷
    (calls.Do (events.Read 1 4 0 1), said.Done (answers.Bytes (0 ∷ []))) ∷
    (calls.Do (events.Read 1 5 0 1), said.Done (answers.Bytes (0 ∷ []))) ∷
    (calls.Do (events.Read 1 6 0 1), said.Done (answers.Bytes (0 ∷ []))) ∷
    (calls.Do (events.Read 1 7 0 1), said.Done (answers.Bytes (0 ∷ []))) ∷
    (calls.Do (events.Sample 0 1 (8 ∷ [])), said.Done (answers.Opened 1 1)) ∷
    (calls.Do (events.Read 0 0 0 1), said.Done (answers.Bytes (0 ∷ []))) ∷
    (calls.Do events.Rebalance, said.Done (answers.Rebalanced 3 3)) ∷
    (calls.Table, said.Table (table_row 0 vm_states.Running 5 9 7 8 0 0 1200 57344 ∷ table_row 1 vm_states.Running 5 9 6 8 0 0 1000 65536 ∷ []) (sum 2 16 0 2 levels.Soft)) ∷ [])
unfolding told_of
admitted_with_its_own = refl

-- A machine has the site's tax until it gets its own, and then no change of the site's touches it; the other has had its own from the
-- start. At a tax of 75 the ratios over a page are 30000 / 2252800 and 100000 / 6553600, and at 0 they are 120000 / 6553600 and the same.
pub own_tax_and_site_tax : AreTold (site 20 16 8 75 6 4 2 1 16777216) (
    (calls.Do (events.Admit 0 (spec 5 9 1 1200 0)), said.Done (answers.Admitted (reserved 6 20 4 8))) ∷
    (calls.Do (events.Admit 1 (taxed (spec 5 9 1 1000 0) 0)), said.Done (answers.Admitted (reserved 12 20 8 8))) ∷
    (calls.Do (events.Start 0), said.Done (answers.Started true 0 1 1)) ∷
    (calls.Do (events.Start 1), said.Done (answers.Started true 1 1 1)) ∷
    (calls.Do (events.Read 0 0 0 1), said.Done (answers.Bytes (0 ∷ []))) ∷
    (calls.Do (events.Read 0 1 0 1), said.Done (answers.Bytes (0 ∷ []))) ∷
    (calls.Do (events.Read 0 2 0 1), said.Done (answers.Bytes (0 ∷ []))) ∷
    (calls.Do (events.Read 0 3 0 1), said.Done (answers.Bytes (0 ∷ []))) ∷
    (calls.Do (events.Read 0 4 0 1), said.Done (answers.Bytes (0 ∷ []))) ∷
    (calls.Do (events.Read 0 5 0 1), said.Done (answers.Bytes (0 ∷ []))) ∷
    (calls.Do (events.Read 0 6 0 1), said.Done (answers.Bytes (0 ∷ []))) ∷
    (calls.Do (events.Read 0 7 0 1), said.Done (answers.Bytes (0 ∷ []))) ∷
    (calls.Do (events.Read 1 0 0 1), said.Done (answers.Bytes (0 ∷ []))) ∷
    (calls.Do (events.Read 1 1 0 1), said.Done (answers.Bytes (0 ∷ []))) ∷
    (calls.Do (events.Read 1 2 0 1), said.Done (answers.Bytes (0 ∷ []))) ∷
    (calls.Do (events.Read 1 3 0 1), said.Done (answers.Bytes (0 ∷ []))) ∷
    (calls.Do (events.Read 1 4 0 1), said.Done (answers.Bytes (0 ∷ []))) ∷
    (calls.Do (events.Read 1 5 0 1), said.Done (answers.Bytes (0 ∷ []))) ∷
    (calls.Do (events.Read 1 6 0 1), said.Done (answers.Bytes (0 ∷ []))) ∷
    (calls.Do (events.Read 1 7 0 1), said.Done (answers.Bytes (0 ∷ []))) ∷
    (calls.Do (events.Sample 0 1 (8 ∷ [])), said.Done (answers.Opened 1 1)) ∷
    (calls.Do (events.Read 0 0 0 1), said.Done (answers.Bytes (0 ∷ []))) ∷
    (calls.OfVm 0, said.Activity (activity 57344 32768 57344 0 0 0 0)) ∷
    (calls.Do events.Rebalance, said.Done (answers.Rebalanced 3 3)) ∷
    (calls.Table, said.Table (table_row 0 vm_states.Running 5 9 6 8 0 0 1200 57344 ∷ table_row 1 vm_states.Running 5 9 7 8 0 0 1000 65536 ∷ []) (sum 2 16 0 2 levels.Soft)) ∷
    (calls.Do (events.SetTax 0), said.Done answers.Done) ∷
    (calls.Do events.Rebalance, said.Done (answers.Rebalanced 3 3)) ∷
    (calls.Table, said.Table (table_row 0 vm_states.Running 5 9 7 8 0 0 1200 57344 ∷ table_row 1 vm_states.Running 5 9 6 8 0 0 1000 65536 ∷ []) (sum 2 16 0 2 levels.Soft)) ∷
    (calls.Do (events.SetVmTax 0 75), said.Done answers.Done) ∷
    (calls.Do events.Rebalance, said.Done (answers.Rebalanced 3 3)) ∷
    (calls.Table, said.Table (table_row 0 vm_states.Running 5 9 6 8 0 0 1200 57344 ∷ table_row 1 vm_states.Running 5 9 7 8 0 0 1000 65536 ∷ []) (sum 2 16 0 2 levels.Soft)) ∷
    (calls.Do (events.SetTax 99), said.Done answers.Done) ∷
    (calls.Do events.Rebalance, said.Done (answers.Rebalanced 3 3)) ∷
    (calls.Table, said.Table (table_row 0 vm_states.Running 5 9 6 8 0 0 1200 57344 ∷ table_row 1 vm_states.Running 5 9 7 8 0 0 1000 65536 ∷ []) (sum 2 16 0 2 levels.Soft)) ∷
    (calls.Do (events.SetVmTax 0 0), said.Done answers.Done) ∷
    (calls.Do events.Rebalance, said.Done (answers.Rebalanced 3 3)) ∷
    (calls.Table, said.Table (table_row 0 vm_states.Running 5 9 7 8 0 0 1200 57344 ∷ table_row 1 vm_states.Running 5 9 6 8 0 0 1000 65536 ∷ []) (sum 2 16 0 2 levels.Soft)) ∷
    [])
unfolding told_of
own_tax_and_site_tax = refl

-- It is refused where there is no machine, then where it is out of its range; in whatever state the machine is it is set.
-- At admission it is tried with the rest of what is asked for, after a machine that is there and before the reserves.
pub own_tax_in_range : AreTold (site 20 16 8 75 6 4 2 1 16777216) (
    (calls.Do (events.Admit 0 (spec 2 6 1 1000 0)), said.Done (answers.Admitted (reserved 3 20 4 8))) ∷
    (calls.Do (events.Start 0), said.Done (answers.Started true 0 1 1)) ∷
    (calls.Do (events.SetVmTax 9 100), said.Refused refusals.NoVm) ∷
    (calls.Do (events.SetVmTax 0 100), said.Refused refusals.BadSpec) ∷
    (calls.Do (events.SetVmTax 0 99), said.Done answers.Done) ∷
    (calls.Do (events.Admit 0 (taxed (spec 2 6 1 1000 0) 100)), said.Refused refusals.VmThere) ∷
    (calls.Do (events.Admit 1 (taxed (spec 19 19 1 1000 0) 100)), said.Refused refusals.BadSpec) ∷
    (calls.Do (events.Admit 1 (taxed (spec 1 6 1 1000 0) 100)), said.Refused refusals.BadSpec) ∷
    (calls.Do (events.Admit 1 (taxed (spec 1 6 1 1000 0) 99)), said.Refused refusals.NoSwapReserve) ∷
    (calls.Do (events.Admit 1 (taxed (spec 1 2 2 1000 1) 99)), said.Done (answers.Admitted (reserved 6 20 5 8))) ∷
    (calls.Do (events.SetVmTax 1 0), said.Done answers.Done) ∷
    (calls.Do (events.Start 1), said.Done (answers.Started false 1 1 2)) ∷
    (calls.Do (events.SetVmTax 1 1), said.Done answers.Done) ∷
    (calls.Do (events.Stop 1), said.Done answers.Done) ∷
    (calls.Do (events.SetVmTax 1 2), said.Done answers.Done) ∷
    (calls.Do (events.Gone 1), said.Done answers.Gone) ∷
    (calls.Do (events.SetVmTax 1 2), said.Refused refusals.NoVm) ∷ [])
unfolding told_of
own_tax_in_range = refl
