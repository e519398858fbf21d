use Rattle.std.proofs.Common.{◌++◌, ◌+◌, ◌<◌, ◌≤◌, arith, inr, length, length-append, length-take, take}
use Rattle.std.proofs.KnownBytes.{Consumes-trans}
use Rattle.esx_reading.specs.declared.whole.TheConstants.{CHUNK}
use Rattle.esx_reading.proofs.whole.read_through.Goals as goal

pub returns-then-given-most-clause-read : goal.returns-then-given-most-clause-read
returns-then-given-most-clause-read g c =
    let front = take c.in-Ok.given c.read.new.buffer in
    let all = c.loop.bytes.items ++ front in
    let long : c.args.most < length all =
    omega (arith, length-append c.loop.bytes.items front, length-take c.in-Ok.given c.read.new.buffer, c.in-Ok.ensures.bound, c.if-given-most.true, c.len.ensures, c.loop.invariant.few) in
    let no_longer : length all ≤ c.args.most + CHUNK =
    omega (arith, length-append c.loop.bytes.items front, length-take c.in-Ok.given c.read.new.buffer, c.in-Ok.ensures.bound, c.requires, c.loop.invariant.few) in
    λ _. inr (
      omega (arith, c.in-Ok.ensures.failures, c.loop.invariant.failures),
      inr (all, Consumes-trans _ _ _ c.loop.bytes.items front c.loop.invariant.given c.in-Ok.ensures.bytes.0, long, no_longer),
    )

pub returns-then-given-most-clause-each : goal.returns-then-given-most-clause-each
returns-then-given-most-clause-each g c =
    let front = take c.in-Ok.given c.read.new.buffer in
    let all = c.loop.bytes.items ++ front in
    let each : g.R.Source.calls c.read.new.self ≤ g.R.Source.calls c.args.source.now + length all + 1 =
    omega (arith, length-append c.loop.bytes.items front, c.in-Ok.ensures.calls, c.loop.invariant.calls, c.loop.invariant.each) in
    λ _. (all, Consumes-trans _ _ _ c.loop.bytes.items front c.loop.invariant.given c.in-Ok.ensures.bytes.0, each)
