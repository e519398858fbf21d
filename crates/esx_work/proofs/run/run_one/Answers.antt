use Rattle.esx_work.proofs.Meets.{one_ran, on_err_map, wanting}
use Rattle.esx_work.proofs.run.run_one.Goals as goal

pub returns : goal.returns
returns g c =
    let sent = c.run-ended.ensures in
    let caller = c.caller-caller.result in
    let door = c.run-ended.new.door in
    one_ran _ _ c.args.task.gate c.args.desk.now door.desk.now c.args.task.pass (record { pass = door.pass; gate = c.run-ended.new.gate; ended = c.run-ended.result }) caller door.caller c.args.task.worker c.args.task.turns (c.requires.is_of, c.caller-caller.ensures, c.requires.below caller c.caller-caller.ensures.0) sent.again sent.leads sent.ok sent.gate sent.err
    (on_err_map _ _ (wanting _ _ _ _ _ _ _ _ _ _ _ (λ m call had. had)) c.run-ended.result sent.wanted)
