use Rattle.std.proofs.Common.{◌∙◌}
use Rattle.sha2.specs.Sha256.{schedule}
use Rattle.esx_formulas.proofs.LaneFacts.{next_word_is}
use Rattle.esx_formulas.proofs.block.put_next.Goals as goal

pub returns : goal.returns
returns c = λ b held.
    let next = next_word_is c.args.w.now b 0 c.args.t c.requires.low c.requires.high held.words in
    c.put.ensures (schedule b 48) held (c.next_word-word.ensures ∙ next)
