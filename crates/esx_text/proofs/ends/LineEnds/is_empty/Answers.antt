use Rattle.esx_text.proofs.EndsLemmas.{none_waits}
use Rattle.std.proofs.Common.{◌≤◌, length, arith}
use Rattle.esx_text.proofs.ends.LineEnds.is_empty.Goals as goal

pub returns : goal.returns
returns c =
    let within : c.self.inside.found ≤ length c.self.inside.lengths = omega (arith, c.self.invariant.1, c.self.told) in
    rw (← c.self.view_is) (none_waits c.self.inside.lengths c.self.inside.next c.self.inside.found c.self.invariant.0 within)
