use Rattle.std.proofs.Common.{◌≤◌, ◌∙◌, sym, subst, length, arith}
use Rattle.esx_text.specs.Lines.{HasLines}
use Rattle.esx_text.proofs.EndsLemmas.{next_waits}
use Rattle.esx_text.proofs.ends.LineEnds.next.Goals as goal

pub returns-then-self-clause-end : goal.returns-then-self-clause-end
returns-then-self-clause-end c =
    let within : c.self.inside.found ≤ length c.self.inside.lengths = omega (arith, c.self.invariant.1, c.self.told) in
    let waits = next_waits c.self.inside.lengths c.self.inside.next c.self.inside.found c.if-self.true within in
    (subst (HasLines c.args.text.now) (sym c.self.view_is ∙ waits) c.requires).0

pub returns-then-self-clause-later : goal.returns-then-self-clause-later
returns-then-self-clause-later c =
    let within : c.self.inside.found ≤ length c.self.inside.lengths = omega (arith, c.self.invariant.1, c.self.told) in
    let waits = next_waits c.self.inside.lengths c.self.inside.next c.self.inside.found c.if-self.true within in
    (subst (HasLines c.args.text.now) (sym c.self.view_is ∙ waits) c.requires).1
