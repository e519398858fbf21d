use Rattle.std.proofs.Common.{refl}
use Rattle.esx_program.proofs.commands.run_file.Goals as goal
use Rattle.esx_program.proofs.commands.run_file.Goals.{in-Ok-ran, in-Err-ran}

pub returns-in-Err-clause-ran : goal.returns-in-Err-clause-ran
returns-in-Err-clause-ran g c = let none = c.in-Err.ensures in (none.0, none.1, (none.3, refl, refl))

pub returns-clause-ran : goal.returns-clause-ran
returns-clause-ran g c =
    let here = c.in-Ok.ensures in
    let e = c.run_to-ran.ensures in
    elim c.match-ran.branch [
      | in-Ok-ran w ↦ rw w.ended-is (here.0, here.1, (c.in-Ok.scenario, here.2, rw w.in-Ok-ran.is at e.ok))
      | in-Err-ran w ↦ rw w.ended-is (here.0, here.1, (c.in-Ok.scenario, here.2, rw w.in-Err-ran.is at e.fault))
    ]
