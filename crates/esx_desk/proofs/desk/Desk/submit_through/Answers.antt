use Rattle.esx_desk.proofs.Calls.{had_it}
use Rattle.esx_desk.proofs.desk.Desk.submit_through.Goals as goal

pub returns-clause-had : goal.returns-clause-had
returns-clause-had g c =
    had_it c.call_and_give.result c.args.pass.now.view c.take-console.new.pass.view c.call_and_give.new.pass.view c.take-console.result.console.value.site c.take-console.result.console.value.log
    c.take-console.ensures.told c.call_and_give.ensures.kept.1 c.call_and_give.ensures.last c.call_and_give.ensures.err
