use Rattle.std.proofs.Common.{◌≡◌, ◌-◌, ◌++◌, length, replicate, ap, ◌∙◌, arith}
use Rattle.esx_types.specs.declared.table.FrameRow.TheVariants.{Free}
use Rattle.esx_grown.proofs.blank.FrameRowBlank.fill.Goals as goal

pub returns-clause-items : goal.returns-clause-items
returns-clause-items c =
    let had = length c.args.rows.now.items in
    let e : c.loop.counter - had ≡ c.args.count - had = omega (arith, c.loop.invariant.1.0, c.loop-test.false) in
    c.loop.invariant.0 ∙ ap (λ n. c.args.rows.now.items ++ replicate n Free) e
