use Rattle.std.proofs.Common.{◌<◌, ◌^◌}
use Rattle.esx_explained.proofs.ValueLemmas.{below_test}
use Rattle.esx_explained.proofs.operand.is_below.Goals as goal

pub returns-in-Some : goal.returns-in-Some
returns-in-Some c =
    let fits : c.args.limit < 2 ^ 64 = c.ranges.limit.fits in
    below_test c.in-Some.number c.args.limit c.args.word.now c.in-Some.ensures.some.0 fits c.in-Some.ensures.some.1
