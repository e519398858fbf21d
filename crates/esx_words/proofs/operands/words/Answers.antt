use Rattle.esx_words.proofs.SampleLemmas.{no_word}
use Rattle.esx_words.proofs.operands.words.Goals as goal

pub returns-in_default-clause-only : goal.returns-in_default-clause-only
returns-in_default-clause-only c = λ words few are is.
    no_word c.loop-fields.words.items words c.args.fields.now c.loop-fields.fields are c.loop-fields.invariant.read is
    (λ z. let t = c.is_empty.ensures.1 z in let f = c.loop-fields-test.true in cc)
    c.in_default.ensures.none
