use Rattle.esx_program.proofs.run.Goals as goal

pub returns : goal.returns
returns g c = (c.args-2.result, c.run_given.ensures.ends)
