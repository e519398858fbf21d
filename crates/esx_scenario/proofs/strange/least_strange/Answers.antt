use Rattle.std.proofs.Common.{ap, ◌∙◌, option_map, string_bytes}
use Rattle.std.specs.Prelude.{option_and_then}
use Rattle.std.proofs.lemmas.Result.{IfOk-weaker}
use Rattle.toml.specs.Data.{as_array}
use Rattle.toml.specs.View.{items_view, table_view}
use Rattle.esx_scenario.proofs.StrangeLemmas.{strange_least, no_vms, some_vms}
use Rattle.esx_scenario.proofs.strange.least_strange.Goals as goal

pub returns-in_default : goal.returns-in_default
returns-in_default c =
    strange_least _ (table_view c.args.table.now) _ _ _ _ _ (option_map string_bytes c.in_ok-least-3.least) _ c.in_ok-least.ensures c.table_of-machine.ensures c.in_ok-least-2.ensures c.table_of-run.ensures c.in_ok-least-3.ensures
    (ap (option_and_then as_array) c.in_default.ensures) (no_vms _ _)

pub returns-in-Some-as_array : goal.returns-in-Some-as_array
returns-in-Some-as_array c =
    IfOk-weaker c.least_of_guests.result _ _ (λ l h.
    strange_least _ (table_view c.args.table.now) _ _ _ _ _ (option_map string_bytes c.in_ok-least-3.least) (option_map string_bytes l) c.in_ok-least.ensures c.table_of-machine.ensures c.in_ok-least-2.ensures c.table_of-run.ensures c.in_ok-least-3.ensures
    (c.in-Some-as_array.ensures ∙ ap (option_and_then as_array) c.in-Some.ensures)
    (rw c.as_slice.ensures.value at h ∙ some_vms _ _ (items_view c.in-Some-as_array.values.now.items))) c.least_of_guests.ensures

pub returns-in-None : goal.returns-in-None
returns-in-None c =
    strange_least _ (table_view c.args.table.now) _ _ _ _ _ (option_map string_bytes c.in_ok-least-3.least) _ c.in_ok-least.ensures c.table_of-machine.ensures c.in_ok-least-2.ensures c.table_of-run.ensures c.in_ok-least-3.ensures
    (c.in-None.ensures ∙ ap (option_and_then as_array) c.in-Some.ensures) (no_vms _ _)
