use Rattle.std.proofs.Common.{ap, ◌∙◌}
use Rattle.esx_text.specs.Own.{own_line}
use Rattle.esx_text.proofs.own.answer_own.Goals as goal

pub returns-in-Session-clause-served : goal.returns-in-Session-clause-served
returns-in-Session-clause-served g c = λ n caller line e. c.answer_session.ensures.served n caller line (e ∙ ap own_line c.in-Session.is)

pub returns-in-Order-clause-served : goal.returns-in-Order-clause-served
returns-in-Order-clause-served g c = λ n caller line e. c.answer_order.ensures.served n caller line (e ∙ ap own_line c.in-Order.is)
