use Rattle.std.proofs.Common.{◌≡◌, List, take, map, filter, ap, subst, sym, ◌∙◌}
use Rattle.std.specs.List.{All}
use Rattle.std.proofs.lemmas.List.{take_all}
use Rattle.esx_formulas.specs.declared.targets.Row.{Row}
use Rattle.esx_model.specs.Advice.{target_of}
use Rattle.esx_model.specs.event.Rebalancing.{rows_of}
use Rattle.esx_order.specs.Order.{IsAbove, is_above, told_of, those_above}
use Rattle.esx_order.proofs.Those.{those_are_above}
use Rattle.esx_order.proofs.above.those_above.Goals as goal

pub returns-clause-good : goal.returns-clause-good
returns-clause-good c =
    let scene = c.requires.0 in
    let shows = c.requires.1 in
    let seen : take c.loop-row.row-index c.as_slice-row-items.result.now ≡ rows_of target_of scene.site =
    take_all c.loop-row.row-index c.as_slice-row-items.result.now c.loop-row-test.false ∙ c.as_slice-row-items.ensures.value ∙ c.in_ok-rows.ensures scene shows in
    let all : c.loop-row.all.items ≡ those_above scene.site =
    c.loop-row.invariant scene shows ∙ ap (λ (rows : List Row). map (told_of scene.site) (filter is_above rows)) seen in
    subst (All IsAbove) (sym all) (those_are_above _ scene.site shows.sound)
