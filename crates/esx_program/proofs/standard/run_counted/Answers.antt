use Rattle.std.proofs.Common.{refl}
use Rattle.esx_program.proofs.StandardLemmas.{over_ends, over_fail, over_question, over_word}
use Rattle.esx_program.proofs.standard.run_counted.Goals as goal

pub returns-clause-does : goal.returns-clause-does
returns-clause-does g c =
    let done = c.run_asked-ended.ensures in
    over_ends g.F.Read.remaining _ _ (λ s. refl) c.args.asked c.with_source-asked.result c.run_asked-ended.new.asked done.0 c.with_source-asked.ensures done.1
    c.run_asked-ended.result.ended _ _ _ _ _ _ done.2 _ _ _ _ _ _
    c.new.ensures.bytes c.new-2.ensures.bytes c.new-3.ensures.bytes c.into_reader.ensures c.into_writer.ensures c.into_writer-2.ensures

pub returns-clause-failure : goal.returns-clause-failure
returns-clause-failure g c = over_fail g.F.Read.remaining c.args.asked c.run_asked-ended.result.ended _ _ _ _ _ _ (returns-clause-does g c)

pub returns-clause-word : goal.returns-clause-word
returns-clause-word g c = over_word g.F.Read.remaining c.args.asked c.run_asked-ended.result.ended _ _ _ _ _ _ (returns-clause-does g c)

pub returns-clause-question : goal.returns-clause-question
returns-clause-question g c = over_question g.F.Read.remaining c.args.asked c.run_asked-ended.result.ended _ _ _ _ _ _ (returns-clause-does g c)
