use Rattle.std.proofs.Common.{◌≡◌, false, ap, sym, ◌∙◌, nat_le, refl, arith}
use Rattle.std.specs.Prelude.{◌&&◌}
use Rattle.esx_types.specs.Versions.{vm_numbers}
use Rattle.esx_scenario.specs.Guests.{are_tables, count_items}
use Rattle.toml.specs.View.{items_view}
use Rattle.esx_scenario.proofs.guests.guests_of.Goals.{then-len-vm_numbers-via-then-len-vm_numbers, then-len-vm_numbers-via-else-len-vm_numbers+then-not-all_tables}
use Rattle.esx_scenario.proofs.GuestLemmas.{gives_at, gives_err, guests_none, guests_other, guests_unfit, guests_fit, count_is, many, strays, all_fit}
use Rattle.esx_scenario.proofs.guests.guests_of.Goals as goal

pub returns-in_default-clause-exact : goal.returns-in_default-clause-exact
returns-in_default-clause-exact c = rw c.new.ensures (guests_none _ _ _ (rw c.in_default.is refl))

pub returns-in_default-as_array-clause-exact : goal.returns-in_default-as_array-clause-exact
returns-in_default-as_array-clause-exact c = gives_err _ _ _ (guests_other _ _ _ _ (rw c.in-Some.is refl) c.in_default-as_array.ensures) c.bad_key.ensures

pub returns-then-len-vm_numbers-clause-exact : goal.returns-then-len-vm_numbers-clause-exact
returns-then-len-vm_numbers-clause-exact c =
    let count = count_is c.in-Some-as_array.values.now.items in
    let unfit : (nat_le (count_items (items_view c.in-Some-as_array.values.now.items)) (vm_numbers c.args.version) && are_tables (items_view c.in-Some-as_array.values.now.items)) ≡ false = elim c.then-len-vm_numbers.branch [
      | then-len-vm_numbers-via-then-len-vm_numbers w ↦ many _ (items_view c.in-Some-as_array.values.now.items) (are_tables (items_view c.in-Some-as_array.values.now.items)) (omega (arith, count, c.len.ensures, c.vm_numbers.ensures, w.if-len-vm_numbers.true))
      | then-len-vm_numbers-via-else-len-vm_numbers+then-not-all_tables w ↦ strays _ _ (ap (λ l. are_tables (items_view l)) (sym w.as_slice.ensures.value) ∙ sym w.all_tables.ensures ∙ w.if-not-all_tables.true)
    ] in
    gives_err _ _ _ (guests_unfit _ _ _ _ _ (rw c.in-Some.is refl) c.in-Some-as_array.ensures unfit) c.bad_key-then-len-vm_numbers.ensures

pub returns-clause-exact : goal.returns-clause-exact
returns-clause-exact c =
    let count = count_is c.in-Some-as_array.values.now.items in
    let fit = all_fit _ (items_view c.in-Some-as_array.values.now.items) (omega (arith, count, c.len.ensures, c.vm_numbers.ensures, c.if-len-vm_numbers.false)) (ap (λ l. are_tables (items_view l)) (sym c.as_slice.ensures.value) ∙ sym c.all_tables.ensures ∙ c.if-not-all_tables.false) in
    gives_at _ _ _ (guests_fit _ _ _ _ _ (rw c.in-Some.is refl) c.in-Some-as_array.ensures fit) (rw c.as_slice-2.ensures.value at c.guests_of_tables.ensures.exact)
