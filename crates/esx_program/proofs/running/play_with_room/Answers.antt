use Rattle.esx_opening.proofs.InTurn.{handed_on}
use Rattle.esx_program.specs.declared.running.RunFault.TheVariants.{OutOfMemory}
use Rattle.esx_program.specs.Runs.{fault_of}
use Rattle.esx_program.proofs.RunLemmas.{not_opened, endings_told}
use Rattle.esx_program.proofs.running.play_with_room.Goals as goal

pub returns-in_err-for_ends-clause-fault : goal.returns-in_err-for_ends-clause-fault
returns-in_err-for_ends-clause-fault g c = handed_on c.from_residual.result OutOfMemory _ c.from_residual.ensures.1 tt

pub returns-in_err-for_session-clause-fault : goal.returns-in_err-for_session-clause-fault
returns-in_err-for_session-clause-fault g c = handed_on c.from_residual-in_err-for_session.result OutOfMemory _ c.from_residual-in_err-for_session.ensures.1 tt

pub returns-in_err-waiting-clause-fault : goal.returns-in_err-waiting-clause-fault
returns-in_err-waiting-clause-fault g c = handed_on c.from_residual-in_err-waiting.result OutOfMemory _ c.from_residual-in_err-waiting.ensures.1 tt

pub returns-in_err-names-clause-fault : goal.returns-in_err-names-clause-fault
returns-in_err-names-clause-fault g c = handed_on c.from_residual-in_err-names.result OutOfMemory _ c.from_residual-in_err-names.ensures.1 tt

pub returns-in_err-console-clause-fault : goal.returns-in_err-console-clause-fault
returns-in_err-console-clause-fault g c =
    handed_on c.from_residual-in_err-console.result (fault_of c.in_err-console.field-0.0) _ c.from_residual-in_err-console.ensures.1
    (not_opened c.in_err-console.field-0.0 c.args.scenario.now (λ e is. c.in_err-console.ensures.refused e is))

pub returns-in_err-endings-clause-fault : goal.returns-in_err-endings-clause-fault
returns-in_err-endings-clause-fault g c = handed_on c.from_residual-in_err-endings.result OutOfMemory _ c.from_residual-in_err-endings.ensures.1 tt

pub returns-clause-ok : goal.returns-clause-ok
returns-clause-ok g c = (
  c.in_ok-console.ends.items,
  c.in_ok-console.ensures.ok,
  endings_told c.in_ok-endings.endings.items c.in_ok-names.names.items c.deref.result.now c.in_ok-console.ends.items c.deref-2.result.now c.args.scenario.now.guests c.guests.result.now
      c.in_ok-endings.ensures c.deref.ensures.value c.deref-2.ensures.value c.in_ok-names.ensures c.guests.ensures.same,
)
