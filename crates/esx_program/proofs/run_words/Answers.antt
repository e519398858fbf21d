use Rattle.std.proofs.Common.{Option, inl, inr, refl, subst, map, string_bytes}
use Rattle.std.specs.Result.{IfOk}
use Rattle.esx_reports.specs.declared.question.Question.{Question}
use Rattle.esx_program.specs.Failing.{AnswersQuestion, Asks}
use Rattle.esx_program.specs.Words.{asked_of, named_in_full}
use Rattle.esx_program.proofs.GivenLemmas.{ask_for_nothing, does_asked, fails_after}
use Rattle.esx_program.proofs.StandardLemmas.{may_fail_alike}
use Rattle.esx_program.proofs.run_words.Goals as goal

pub returns-in-Ok-clause-does : goal.returns-in-Ok-clause-does
returns-in-Ok-clause-does g c =
    inl (c.in-Ok.asked, record { no_fault = c.in-Ok.ensures.taken; asked_for = c.in-Ok.ensures.ok }, c.opened.result, c.opened.ensures, c.run_counted.ensures.does)

pub returns-in-Err-clause-does : goal.returns-in-Err-clause-does
returns-in-Err-clause-does g c =
    inr (rw c.failure_of_words.ensures.failure (ask_for_nothing (map string_bytes c.args.words.now) c.in-Err.fault c.in-Err.ensures.refused), refl, refl, refl)

pub returns-in-Ok-clause-done : goal.returns-in-Ok-clause-done
returns-in-Ok-clause-done g c =
    let asks : Asks (map string_bytes c.args.words.now) (named_in_full c.in-Ok.asked) = record { no_fault = c.in-Ok.ensures.taken; asked_for = c.in-Ok.ensures.ok } in
    let answers = subst (λ (q : Option Question). IfOk c.run_counted.result.ended (λ done. AnswersQuestion done q)) c.opened.ensures.question c.run_counted.ensures.question in
    does_asked c.run_counted.result.ended (map string_bytes c.args.words.now) (named_in_full c.in-Ok.asked) (asked_of c.opened.result).0 asks c.opened.ensures.word c.run_counted.ensures.word answers

pub returns-in-Ok-clause-failure : goal.returns-in-Ok-clause-failure
returns-in-Ok-clause-failure g c =
    let asks : Asks (map string_bytes c.args.words.now) (named_in_full c.in-Ok.asked) = record { no_fault = c.in-Ok.ensures.taken; asked_for = c.in-Ok.ensures.ok } in
    fails_after (map string_bytes c.args.words.now) c.in-Ok.asked asks c.run_counted.result.ended
    (may_fail_alike (λ _ _. Unit {0}) c.in-Ok.asked c.opened.result c.opened.ensures c.run_counted.result.ended c.run_counted.ensures.failure)
