use Rattle.std.proofs.Common.{◌∙◌}
use Rattle.esx_walk.proofs.Rows.{good_rows, few_rows}
use Rattle.esx_walk.proofs.looking.look.Goals as goal

pub order_of-requires-clause-rows : goal.order_of-requires-clause-rows
order_of-requires-clause-rows c =
    let s = c.requires in
    good_rows c.args.machine.now.config s.0.site c.as_slice.result.now s.1.sound (c.as_slice.ensures.value ∙ c.in_ok-rows.ensures s.0 s.1)

pub order_of-requires-clause-few : goal.order_of-requires-clause-few
order_of-requires-clause-few c =
    let s = c.requires in
    few_rows c.args.machine.now.config s.0.site c.as_slice.result.now s.1.sound (c.as_slice.ensures.value ∙ c.in_ok-rows.ensures s.0 s.1)
