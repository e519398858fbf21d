use Rattle.esx_plans.proofs.Loops.{each_used}
use Rattle.esx_machine.specs.Questions.{IsReadable}
use Rattle.esx_machine.proofs.Loops.{lines_of_used}
use Rattle.esx_machine.proofs.table.table_of.Goals as goal

pub lines_of-requires-clause-each : goal.lines_of-requires-clause-each
lines_of-requires-clause-each c = each_used IsReadable c.machines.result.now c.args.tables.now.vms c.machines.ensures c.requires.each

pub returns : goal.returns
returns c = rw (lines_of_used c.machines.result.now c.args.tables.now.vms c.machines.ensures) at c.lines_of.ensures
