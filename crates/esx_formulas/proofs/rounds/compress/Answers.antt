use Rattle.std.proofs.Common.{◌≡◌, ◌*◌, refl, ap, ◌∙◌, arith}
use Rattle.sha2.specs.Sha256.{add_state, rounds}
use Rattle.esx_formulas.proofs.rounds.compress.Goals as goal

pub rounds-init : goal.rounds-init
unfolding rounds
rounds-init c = λ ws held. refl

pub rounds-preserved : goal.rounds-preserved
rounds-preserved c = λ ws held.
    let after = rounds c.args.state.now ws in
    let s1 = c.four_rounds-v.ensures ws c.args.state.now held (c.rounds.invariant ws held) in
    let s2 = c.four_rounds-v-in-rounds.ensures ws c.args.state.now held s1 in
    s2 ∙ ap after (omega arith)

pub returns : goal.returns
returns c = λ ws held.
    let done : 8 * c.rounds.turn ≡ 64 = omega arith in
    ap (add_state c.args.state.now) (rw done at (c.rounds.invariant ws held))
