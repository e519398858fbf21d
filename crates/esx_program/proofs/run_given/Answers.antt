use Rattle.esx_program.proofs.GivenLemmas.{does_given, does_unread, ends_given, ends_unread}
use Rattle.esx_program.proofs.run_given.Goals as goal

pub returns-in-Ok-clause-ends : goal.returns-in-Ok-clause-ends
returns-in-Ok-clause-ends g c =
    ends_given c.in-Ok.words c.as_slice.result.now c.as_slice.ensures.value c.args.given c.in-Ok.ensures c.run_words.result.ended c.run_words.ensures.done c.run_words.ensures.failure

pub returns-in-Ok-clause-does : goal.returns-in-Ok-clause-does
returns-in-Ok-clause-does g c =
    does_given c.in-Ok.words c.as_slice.result.now c.as_slice.ensures.value g.R.File.Read.remaining c.args.given c.in-Ok.ensures c.run_words.result.ended _ _ _ _ _ _
    c.run_words.ensures.does

pub returns-in-Err-clause-ends : goal.returns-in-Err-clause-ends
returns-in-Err-clause-ends g c = ends_unread c.in-Err.failure c.args.given c.in-Err.ensures

pub returns-in-Err-clause-does : goal.returns-in-Err-clause-does
returns-in-Err-clause-does g c = does_unread c.in-Err.failure g.R.File.Read.remaining c.args.given c.in-Err.ensures _ _ _
