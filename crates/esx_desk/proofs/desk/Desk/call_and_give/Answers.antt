use Rattle.std.proofs.Common.{sym, ap}
use Rattle.esx_model.specs.Console.{Session}
use Rattle.esx_lock.proofs.Grown.{grows_one}
use Rattle.esx_desk.specs.Told.{line}
use Rattle.esx_desk.proofs.desk.Desk.call_and_give.Goals as goal

pub give-requires-clause-grows : goal.give-requires-clause-grows
give-requires-clause-grows g c =
    grows_one c.call-reply.result c.args.pass.now.view c.args.console.console.value.log c.call-reply.new.self.console.value.log (line c.args.caller c.args.call)
    (sym (ap (λ (s : Session). s.log) c.requires.taken)) (λ _. c.requires.caller) c.call-reply.ensures.ok c.call-reply.ensures.err
