use Rattle.std.proofs.Common.{ap, sym, ◌∙◌, rules, arith}
use Rattle.esx_check.proofs.ComparingLemmas.{goes_elsewhere}
use Rattle.esx_check.proofs.comparing.ComparingSink.write.Goals as goal

pub returns-clause-bytes : goal.returns-clause-bytes
returns-clause-bytes g c =
    goes_elsewhere g.T.Wanted.text c.self.inside.count c.self.inside.other c.args.self.now.bytes _ c.args.bytes.now c.common_front-same.result
    (sym c.is_some.ensures ∙ c.if-is_some.false) (sym (ap (λ v. v.bytes) c.self.view_is)) (search rules) c.common_front-same.ensures.same (omega arith)
