use Rattle.std.proofs.Common.{◌∙◌, arith}
use Rattle.esx_formulas.proofs.LaneFacts.{below_four, word_of_block}
use Rattle.esx_formulas.proofs.lanes.words_at.Goals as goal

pub returns : goal.returns
returns c =
    let p = c.args.blocks.now in
    below_four _
    (c.word_at.ensures ∙ word_of_block p 0 c.args.at _ c.requires.within (omega arith))
    (c.word_at-2.ensures ∙ word_of_block p 1 c.args.at _ c.requires.within (omega arith))
    (c.word_at-3.ensures ∙ word_of_block p 2 c.args.at _ c.requires.within (omega arith))
    (c.word_at-4.ensures ∙ word_of_block p 3 c.args.at _ c.requires.within (omega arith))
