use Rattle.std.proofs.Common.{ap, ◌∙◌, Option, None}
use Rattle.std.specs.Option.{is_some}
use Rattle.std.proofs.lemmas.List.{get_or_past}
use Rattle.esx_model.specs.declared.book.VmRow.{VmRow}
use Rattle.esx_plans.proofs.Loops.{used_at}
use Rattle.esx_machine.proofs.reading.numbers_of.Goals as goal

pub returns-clause-past : goal.returns-clause-past
returns-clause-past c = λ n past. used_at c.machines.result.now c.args.tables.now.vms c.machines.ensures n ∙ get_or_past c.machines.result.now n None past

pub returns-clause-last : goal.returns-clause-last
returns-clause-last c = λ n is. ap (λ (o : Option VmRow). is_some o) (used_at c.machines.result.now c.args.tables.now.vms c.machines.ensures n) ∙ c.machines.ensures.last n is
