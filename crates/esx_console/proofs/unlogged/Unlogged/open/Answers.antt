use Rattle.esx_console.proofs.Unlogging.{first_answers}
use Rattle.esx_console.specs.Calls.{opened_session}
use Rattle.esx_console.proofs.unlogged.Unlogged.open.Goals as goal

pub invariant_of-result : goal.invariant_of-result
invariant_of-result c = (opened_session c.args.config, first_answers c.args.config _ c.in_ok-journal.ensures.checked c.in_ok-journal.ensures.opens)

pub returns-clause-opens : goal.returns-clause-opens
returns-clause-opens c = (
  first_answers c.args.config _ c.in_ok-journal.ensures.checked c.in_ok-journal.ensures.opens,
  c.in_ok-journal.ensures.checked,
)
