use Rattle.esx_writing.proofs.WritingLemmas.{appends_more, front_of_more}
use Rattle.esx_text.specs.Own.{told_text}
use Rattle.esx_text.specs.Own.IsOwnText.{told}
use Rattle.esx_text.specs.Answers.IsAnswered.{own}
use Rattle.esx_text.specs.declared.own.OwnWord.TheVariants.{Session}
use Rattle.esx_text.proofs.EchoLemmas.{front_behind}
use Rattle.esx_text.proofs.own.answer_session.Goals as goal

pub returns-in_default-clause-served : goal.returns-in_default-clause-served
returns-in_default-clause-served g c = λ n caller line is.
    let text = told_text c.args.console.now in
    (text, own Session text is told, front_of_more _ _ _ text c.in_default.ensures.bytes)

pub returns-in-Ok-tell_session-clause-served : goal.returns-in-Ok-tell_session-clause-served
returns-in-Ok-tell_session-clause-served g c = λ n caller line is.
    let text = told_text c.args.console.now in
    (text, own Session text is told, appends_more _ _ _ _ text c.in-Ok.ensures.bytes (rw (c.site.ensures, c.kept.ensures.lines) at c.in-Ok-tell_session.ensures.bytes))

pub returns-in-Err-clause-served : goal.returns-in-Err-clause-served
returns-in-Err-clause-served g c = λ n caller line is.
    let text = told_text c.args.console.now in
    (text, own Session text is told, front_behind _ _ _ _ text c.in-Ok.ensures.bytes (rw (c.site.ensures, c.kept.ensures.lines) at c.in-Err.ensures.bytes))
