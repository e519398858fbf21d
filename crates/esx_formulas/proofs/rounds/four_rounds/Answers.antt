use Rattle.std.proofs.Common.{◌+◌, ap, ◌∙◌, arith}
use Rattle.sha2.specs.Sha256.{rounds}
use Rattle.esx_formulas.proofs.RoundFacts.{round_more}
use Rattle.esx_formulas.proofs.rounds.four_rounds.Goals as goal

pub returns : goal.returns
returns c = λ ws h held before.
    let sums = c.args.sums.now in
    let lane = c.args.lane in
    let t = c.args.t in
    let s1 = round_more sums lane ws h _ _ t t (omega arith) (omega arith) held before c.round-v.ensures in
    let s2 = round_more sums lane ws h _ _ (t + 1) (t + 1) (omega arith) (omega arith) held s1 c.round-v-2.ensures in
    let s3 = round_more sums lane ws h _ _ (t + 1 + 1) (t + 2) (omega arith) (omega arith) held s2 c.round-v-3.ensures in
    let s4 = round_more sums lane ws h _ _ (t + 1 + 1 + 1) (t + 3) (omega arith) (omega arith) held s3 c.round.ensures in
    s4 ∙ ap (rounds h ws) (omega arith)
