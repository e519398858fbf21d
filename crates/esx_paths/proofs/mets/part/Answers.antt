use Rattle.std.proofs.Common.{length, filter_map, ap, ◌∙◌, rules, arith}
use Rattle.std.proofs.lemmas.List.Sorted.{answers_always}
use Rattle.esx_keys.proofs.Ordered.{in_order-from_sort}
use Rattle.esx_types.specs.Listings.{in_order}
use Rattle.esx_paths.specs.declared.mets.Met.{Met}
use Rattle.esx_paths.specs.Paths.{met_on}
use Rattle.esx_paths.proofs.Lists.{mapped_and_not}
use Rattle.esx_paths.proofs.mets.part.Goals as goal

pub overflow_sub-elsewhere : goal.overflow_sub-elsewhere
overflow_sub-elsewhere c =
    let all = mapped_and_not (met_on c.args.nodes.now) c.args.refused.items in
    let mets_are = c.in_ok-mets.ensures ∙ ap (filter_map (met_on c.args.nodes.now)) c.as_slice.ensures.value in
    let long = ap length mets_are in
    let whole = c.len.ensures in
    let some = c.len-2.ensures in
    omega (arith, all, long, whole, some)

pub returns : goal.returns
returns c =
    let key = λ (met : Met). met.at in
    let sort = c.in_ok-sort_by_key.ensures in
    let all = mapped_and_not (met_on c.args.nodes.now) c.args.refused.items in
    let mets_are = c.in_ok-mets.ensures ∙ ap (filter_map (met_on c.args.nodes.now)) c.as_slice.ensures.value in
    let long = ap length mets_are in
    let whole = c.len.ensures in
    let some = c.len-2.ensures in
    let same = sort.len in
    record {
      on = in_order-from_sort key _ _ (sort.sorted key (answers_always _ _ _ (λ f a r g h. search rules))) (sort.stable key (answers_always _ _ _ (λ f a r g h. search rules))) ∙ ap (in_order key) mets_are;
      off = omega (arith, all, long, whole, some, same);
    }
