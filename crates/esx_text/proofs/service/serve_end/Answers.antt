use Rattle.std.proofs.Common.{◌≡◌, ◌∙◌, ap, sym, length}
use Rattle.std.proofs.lemmas.Bool.Decides.{Decides-eqb, not_from_Decides}
use Rattle.esx_text.proofs.ProgressLemmas.{answers_last}
use Rattle.esx_text.proofs.FaultLemmas.{handed_on, stops_last}
use Rattle.esx_text.proofs.service.serve_end.Goals as goal

pub returns-clause-ok : goal.returns-clause-ok
returns-clause-ok g c = λ before known unread left input p read end.
    let some : length c.args.work.now.line.front ≡ 0 → ⊥ =
    λ z. not_from_Decides _ (Decides-eqb (length c.bytes.result.now) 0) (sym c.if-is_empty.ensures) (ap length c.bytes.ensures ∙ z) in
    answers_last c.args.caller c.args.work.now.count _ _ _ _ _ _ _ _ input c.args.work.now.line read end some p
    (λ full keeps. c.in_ok-answer_line.ensures.served full (rw (c.bytes-2.ensures, c.is_long.ensures) keeps))

pub returns-in_err-answer_line-clause-fault : goal.returns-in_err-answer_line-clause-fault
returns-in_err-answer_line-clause-fault g c = handed_on c.from_residual.result c.in_err-answer_line.field-0.0 _ c.from_residual.ensures.1
    (λ before known input p.
    let some : length c.args.work.now.line.front ≡ 0 → ⊥ =
    λ z. not_from_Decides _ (Decides-eqb (length c.bytes.result.now) 0) (sym c.if-is_empty.ensures) (ap length c.bytes.ensures ∙ z) in
    stops_last c.in_err-answer_line.field-0.0 c.args.caller before known input c.args.work.now.count c.args.work.now.line _ _ _ _ some
    (λ full keeps. c.in_err-answer_line.ensures.served full (rw (c.bytes-2.ensures, c.is_long.ensures) keeps)) p)
