use Rattle.esx_events.specs.declared.call.Call.TheVariants as calls
use Rattle.esx_console.proofs.Outcomes.{hears_redo, heard_as}
use Rattle.esx_console.proofs.hearing.moves.hear_redo.Goals as goal

pub returns-clause-hears : goal.returns-clause-hears
returns-clause-hears c = λ h holds.
    heard_as _ h (calls.Redo c.args.count) _ _ c.moved.ensures.value (hears_redo _ _ h c.args.count c.redo.result holds (c.redo.ensures h holds))
