use Rattle.esx_events.specs.declared.call.Call.TheVariants as calls
use Rattle.esx_console.proofs.Outcomes.{hears_visit, heard_as}
use Rattle.esx_console.proofs.hearing.moves.hear_visit.Goals as goal

pub returns-clause-hears : goal.returns-clause-hears
returns-clause-hears c = λ h holds.
    heard_as _ h (calls.Visit c.args.name.now) _ _ c.moved.ensures.value (hears_visit _ _ h c.args.name.now c.visit.result holds (c.visit.ensures h holds))
