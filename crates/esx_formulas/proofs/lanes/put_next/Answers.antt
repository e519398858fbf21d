use Rattle.std.proofs.Common.{◌∙◌}
use Rattle.sha2.specs.Sha256.{schedule}
use Rattle.esx_formulas.proofs.LaneFacts.{next_word_is}
use Rattle.esx_formulas.proofs.lanes.put_next.Goals as goal

pub returns : goal.returns
returns c = λ j b low held.
    c.put.ensures j (schedule b 48) low held
    (c.next_words-words.ensures j low ∙ next_word_is c.args.w.now b j c.args.t c.requires.low c.requires.high held.words)
