use Rattle.esx_formulas.proofs.RoundFacts.{round_by_sum}
use Rattle.esx_formulas.proofs.rounds.round.Goals as goal

pub returns : goal.returns
returns c = λ k w e.
    round_by_sum c.args.v c.args.sum k w _ _ _ _ c.big_sigma0.ensures c.big_sigma1.ensures c.ch.ensures c.maj.ensures e
