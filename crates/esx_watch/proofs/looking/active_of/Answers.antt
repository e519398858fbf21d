use Rattle.esx_watch.proofs.Looks.{active_told, not_refused}
use Rattle.esx_watch.proofs.looking.active_of.Goals as goal

pub returns-in-Ok : goal.returns-in-Ok
returns-in-Ok c = λ scene v shows there. active_told c.args.machine.now scene c.args.vm v c.in-Ok.activity shows there c.in-Ok.ensures

pub returns-in-Err : goal.returns-in-Err
returns-in-Err c = λ scene v shows there. absurd (not_refused c.args.machine.now scene c.args.vm v _ shows there c.in-Err.ensures)
