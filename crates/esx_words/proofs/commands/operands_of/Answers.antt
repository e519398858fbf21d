use Rattle.esx_words.proofs.OperandLemmas.{no_machine, no_number, no_place, no_name}
use Rattle.esx_words.proofs.commands.operands_of.Goals as goal

pub returns-in-None-clause-only : goal.returns-in-None-clause-only
returns-in-None-clause-only c = rw c.in-Event.is (rw c.in-None.is at c.in_ok-event-in-Event.ensures.only)

pub returns-in-None-number-clause-only : goal.returns-in-None-number-clause-only
returns-in-None-number-clause-only c = rw c.in-Number.is (no_number c.args.fields.now c.in-None-number.ensures.none)

pub returns-in-None-2-clause-only : goal.returns-in-None-2-clause-only
returns-in-None-2-clause-only c = rw c.in-Name.is (no_name c.args.fields.now (rw c.in-None-2.is at c.in_ok-name-in-Name.ensures.only))

pub returns-in-None-machine-clause-only : goal.returns-in-None-machine-clause-only
returns-in-None-machine-clause-only c = rw c.in-OfVm.is (no_machine c.args.fields.now c.in-None-machine.ensures.none)

pub returns-in-None-place-clause-only : goal.returns-in-None-place-clause-only
returns-in-None-place-clause-only c = rw c.in-Place.is (no_place c.args.fields.now c.in-None-place.ensures.none)

pub returns-in-None-3-clause-only : goal.returns-in-None-3-clause-only
returns-in-None-3-clause-only c = rw c.in-WhatIf.is (λ x are e. (rw c.in-None-3.is at c.in_ok-events-in-WhatIf.ensures.only) x are.0 are.1 e)
