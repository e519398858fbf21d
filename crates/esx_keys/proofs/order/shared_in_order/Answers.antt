use Rattle.std.proofs.Common.{rules, ap, ◌∙◌}
use Rattle.std.proofs.lemmas.List.Sorted.{answers_always}
use Rattle.esx_types.specs.declared.table.KeyRow.{KeyRow}
use Rattle.esx_types.specs.Listings.{in_order}
use Rattle.esx_keys.proofs.Ordered.{in_order-from_sort}
use Rattle.esx_keys.proofs.order.shared_in_order.Goals as goal

pub returns : goal.returns
returns c =
    let key = λ (row : KeyRow). row.key in
    let sort = c.in_ok-sort_by_key.ensures in
    c.from_vec.ensures ∙ in_order-from_sort key _ _ (sort.sorted key (answers_always _ _ _ (λ f a r g h. search rules))) (sort.stable key (answers_always _ _ _ (λ f a r g h. search rules))) ∙ ap (in_order key) c.in_ok-rows.ensures
