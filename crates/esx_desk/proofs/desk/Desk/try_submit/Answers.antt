use Rattle.esx_desk.proofs.Calls.{had_it}
use Rattle.esx_desk.proofs.desk.Desk.try_submit.Goals as goal

pub returns-in-Err-call_and_give-clause-had : goal.returns-in-Err-call_and_give-clause-had
returns-in-Err-call_and_give-clause-had c =
    let had =
    had_it c.call_and_give.result c.args.pass.now.view c.try_take.new.pass.view c.call_and_give.new.pass.view c.in-Ok.console.console.value.site c.in-Ok.console.console.value.log
    c.in-Ok.ensures.told c.call_and_give.ensures.kept.1 c.call_and_give.ensures.last c.call_and_give.ensures.err in
    λ fault. rw c.in-Err-call_and_give.is at had
