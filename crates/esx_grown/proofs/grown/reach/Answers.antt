use Rattle.std.proofs.Common.{◌≤◌, List, ap, ◌∙◌, arith}
use Rattle.esx_grown.specs.Grown.{grown}
use Rattle.esx_grown.proofs.GrownLemmas.{grown_more}
use Rattle.esx_grown.proofs.grown.reach.Goals as goal

pub returns-then-at-len-clause-seen : goal.returns-then-at-len-clause-seen
returns-then-at-len-clause-seen g c =
    let blank = g.T.Blank.blank in
    let within : c.min.result ≤ c.args.len = omega (arith, c.min.ensures) in
    ap (λ (l : List g.row.T.Denot). grown blank l c.args.len) c.fill.ensures.items ∙ grown_more blank c.args.used.now.items c.min.result c.args.len within
