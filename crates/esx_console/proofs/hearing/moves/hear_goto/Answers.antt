use Rattle.esx_events.specs.declared.call.Call.TheVariants as calls
use Rattle.esx_console.proofs.Outcomes.{hears_goto, heard_as}
use Rattle.esx_console.proofs.hearing.moves.hear_goto.Goals as goal

pub returns-clause-hears : goal.returns-clause-hears
returns-clause-hears c = λ h holds.
    heard_as _ h (calls.Goto c.args.node) _ _ c.moved.ensures.value (hears_goto _ _ h c.args.node c.goto.result holds (c.goto.ensures h holds))
