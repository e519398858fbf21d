use Rattle.esx_text.proofs.SendingLemmas.{counted, ends_err, reaches_unsent, reaches_sent}
use Rattle.esx_text.proofs.service.finish.Goals as goal

pub returns-in_err-send-in-Ok-clause-served : goal.returns-in_err-send-in-Ok-clause-served
returns-in_err-send-in-Ok-clause-served g c = λ manner caller before after unread left old r.
    ends_err c.from_residual.result c.in_err-send-in-Ok.field-0.0 caller before after unread left old _ c.from_residual.ensures.1
    (rw c.in_err-send-in-Ok.ensures.fault (reaches_unsent c.args.served c.in-Ok.found caller before after unread left old _ _ c.in-Ok.is c.in_err-send-in-Ok.ensures.bytes r))

pub returns-in_ok-send-in-Ok-clause-served : goal.returns-in_ok-send-in-Ok-clause-served
returns-in_ok-send-in-Ok-clause-served g c = λ manner caller before after unread left old r.
    reaches_sent manner c.args.served c.in-Ok.found c.ok_or.result caller before after unread left old _ _ c.in-Ok.is c.ok_or.ensures.value c.in_ok-send-in-Ok.ensures.bytes r

pub returns-in_ok-send-in-Ok-clause-counted : goal.returns-in_ok-send-in-Ok-clause-counted
returns-in_ok-send-in-Ok-clause-counted g c = counted c.args.served c.in-Ok.found c.ok_or.result c.in-Ok.is c.ok_or.ensures.value
