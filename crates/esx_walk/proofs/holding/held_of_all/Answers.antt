use Rattle.std.proofs.Common.{replicate, ap, ◌∙◌}
use Rattle.esx_types.specs.declared.config.TheConstants.{VM_NUMBERS}
use Rattle.esx_walk.specs.Holding.{with_rows}
use Rattle.esx_walk.proofs.Held.{all_held}
use Rattle.esx_walk.proofs.holding.held_of_all.Goals as goal

pub returns : goal.returns
returns c = λ scene shows.
    c.hold_rows.ensures scene shows
    ∙ ap (λ held. with_rows scene.site held c.as_slice.result.now) (c.from_vec-held.ensures ∙ c.in_ok-vec.ensures.items_if_clones_equal (λ y e. e))
    ∙ ap (with_rows scene.site (replicate VM_NUMBERS 0)) (c.as_slice.ensures.value ∙ c.in_ok-rows.ensures scene shows)
    ∙ all_held c.args.machine.now.config scene.site shows.sound
