use Rattle.esx_events.specs.declared.call.Call.TheVariants as calls
use Rattle.esx_console.proofs.Outcomes.{hears_undo, heard_as}
use Rattle.esx_console.proofs.hearing.moves.hear_undo.Goals as goal

pub returns-clause-hears : goal.returns-clause-hears
returns-clause-hears c = λ h holds.
    heard_as _ h (calls.Undo c.args.count) _ _ c.moved.ensures.value (hears_undo _ _ h c.args.count c.undo.result holds (c.undo.ensures h holds))
