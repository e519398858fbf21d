use Rattle.std.proofs.Common.{[], ◌++◌, refl, sym, subst, ◌∙◌}
use Rattle.std.specs.Io.KnownBytes.{Appends}
use Rattle.esx_text.specs.Lines.{IsSilent, input_bytes}
use Rattle.esx_text.specs.Answers.IsAnswered.{silent}
use Rattle.esx_writing.proofs.WritingLemmas.{appends_nothing}
use Rattle.esx_text.proofs.AnswerLemmas.{silent_as_kept, long_line, long_unasked, kept_whole, long_served}
use Rattle.esx_text.proofs.EchoLemmas.{silent_echo}
use Rattle.esx_text.proofs.OwnLemmas.{long_is_no_own}
use Rattle.esx_text.proofs.PageOutLemmas.{long_asks_none}
use Rattle.esx_text.proofs.answer.answer_line.Goals as goal

pub returns-then-is_silent-clause-served : goal.returns-then-is_silent-clause-served
returns-then-is_silent-clause-served g c = λ line keeps.
    let kept = input_bytes c.args.asked.now.kept in
    let is = (silent_as_kept kept c.args.asked.now.long line keeps).1 (subst IsSilent c.bytes-kept.ensures (c.is_silent.ensures.0 c.if-is_silent.true)) in
    let bytes = g.W.Sink.contents c.args.writer.now in
    ([], silent is, subst (λ echo. Appends bytes bytes (echo ++ [])) (sym (silent_echo c.args.asked.now.manner line is)) (appends_nothing bytes))

pub returns-then-asked-clause-served : goal.returns-then-asked-clause-served
returns-then-asked-clause-served g c = λ line keeps.
    let kept = input_bytes c.args.asked.now.kept in
    let long = long_line kept c.args.asked.now.long line c.if-asked.true keeps in
    long_served c.args.asked.now.manner c.args.asked.now.number c.args.caller _ _ line _ _ c.answer_unknown.result long (
    c.answer_unknown.ensures.served c.args.caller c.args.console.now line
    (λ s. let t = c.is_silent.ensures.1 (subst IsSilent (sym c.bytes-kept.ensures) ((silent_as_kept kept c.args.asked.now.long line keeps).0 s)) in cc)
    (λ word e. long_is_no_own line long word e)
    (λ m page asks. long_asks_none line long m page asks)
    (λ call is. long_unasked kept c.args.asked.now.long line call c.if-asked.true keeps is)
    )

pub returns-in-Some-clause-served : goal.returns-in-Some-clause-served
returns-in-Some-clause-served g c = λ line keeps.
    let e = kept_whole (input_bytes c.args.asked.now.kept) c.args.asked.now.long line c.if-asked.false keeps ∙ sym c.bytes-kept.ensures in
    rw e (c.answer_own.ensures.served c.args.asked.now.number c.args.caller c.bytes-kept.result.now (rw c.in-Some.is at c.own_word.ensures))

pub returns-in_default-call_of_line-clause-served : goal.returns-in_default-call_of_line-clause-served
returns-in_default-call_of_line-clause-served g c = λ line keeps.
    let e = kept_whole (input_bytes c.args.asked.now.kept) c.args.asked.now.long line c.if-asked.false keeps in
    (refl, rw e c.in_default-call_of_line.ensures.memory, appends_nothing _)

pub returns-in-Some-found-clause-served : goal.returns-in-Some-found-clause-served
returns-in-Some-found-clause-served g c = λ line keeps.
    let e = kept_whole (input_bytes c.args.asked.now.kept) c.args.asked.now.long line c.if-asked.false keeps ∙ sym c.bytes-kept.ensures in
    rw e (c.answer_call.ensures.served c.args.asked.now.number)

pub returns-in-Some-asked_out-clause-served : goal.returns-in-Some-asked_out-clause-served
returns-in-Some-asked_out-clause-served g c = λ line keeps.
    let e = kept_whole (input_bytes c.args.asked.now.kept) c.args.asked.now.long line c.if-asked.false keeps ∙ sym c.bytes-kept.ensures in
    rw e (c.answer_pageout.ensures.served c.args.asked.now.number c.bytes-kept.result.now (rw c.bytes-kept.ensures c.in-Some-asked_out.ensures))

pub returns-in-None-clause-served : goal.returns-in-None-clause-served
returns-in-None-clause-served g c = λ line keeps.
    let e = kept_whole (input_bytes c.args.asked.now.kept) c.args.asked.now.long line c.if-asked.false keeps ∙ sym c.bytes-kept.ensures in
    rw e (
    c.answer_unknown-in-None.ensures.served c.args.caller c.args.console.now c.bytes-kept.result.now
    (λ s. let t = c.is_silent.ensures.1 s in cc)
    (λ word s. (rw c.in_default.is at c.own_word.ensures) word s)
    (λ m page asks. c.in-None.ensures m page (rw c.bytes-kept.ensures at asks))
    (λ call is. (rw c.in_default-found.is at c.in-Ok.ensures.found) call (rw c.bytes-kept.ensures at is))
    )
