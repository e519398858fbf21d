use Rattle.std.proofs.Common.{arith}
use Rattle.story_tests.proofs.tests.paths.walk_along.Goals as goal

pub loop-at-init : goal.loop-at-init
loop-at-init c = record { config = _; events = _; mets = _; walk = c.in-Ok.ensures.opens; short = omega arith; few = omega arith }

pub returns : goal.returns
returns c = (let w = c.loop-at.invariant in
    let short = w.short in
    record { config = w.config; events = w.events; mets = w.mets; walk = w.walk; short = omega arith })
