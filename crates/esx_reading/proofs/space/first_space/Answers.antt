use Rattle.std.proofs.Common.{◌≡◌, ◌<◌, ◌∙◌, ap, sym, subst, take, get_or, arith}
use Rattle.std.proofs.lemmas.List.{take-take, get_or-take}
use Rattle.esx_reading.specs.Fields.{HasNoSpace}
use Rattle.esx_reading.proofs.space.first_space.Goals as goal

pub space_from-requires-then-at-eq16-clause-before : goal.space_from-requires-then-at-eq16-clause-before
space_from-requires-then-at-eq16-clause-before c =
    let at = c.space_in_sixteen-at.result in
    let same : take at c.in-Some.sixteen.now ≡ take at c.args.bytes.now =
    ap (take at) c.in-Some.ensures.cases.0 ∙ take-take at 16 c.args.bytes.now c.space_in_sixteen-at.ensures.within in
    subst (λ k. HasNoSpace (take k c.args.bytes.now)) c.if-at-eq16.true (subst HasNoSpace same c.space_in_sixteen-at.ensures.before)

pub returns-clause-before : goal.returns-clause-before
returns-clause-before c =
    let at = c.space_in_sixteen-at.result in
    let same : take at c.in-Some.sixteen.now ≡ take at c.args.bytes.now =
    ap (take at) c.in-Some.ensures.cases.0 ∙ take-take at 16 c.args.bytes.now c.space_in_sixteen-at.ensures.within in
    subst HasNoSpace same c.space_in_sixteen-at.ensures.before

pub returns-clause-here : goal.returns-clause-here
returns-clause-here c =
    let at = c.space_in_sixteen-at.result in
    let less : at < 16 = omega (arith, c.space_in_sixteen-at.ensures.within, c.if-at-eq16.false) in
    λ within. sym (ap (λ l. get_or l at 0) c.in-Some.ensures.cases.0 ∙ get_or-take 16 c.args.bytes.now at 0 less) ∙ c.space_in_sixteen-at.ensures.here less
