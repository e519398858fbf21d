use Rattle.esx_events.specs.declared.call.Call.TheVariants as calls
use Rattle.esx_console.proofs.Outcomes.{hears_prune, heard_as}
use Rattle.esx_console.proofs.hearing.marks.hear_prune.Goals as goal

pub returns-clause-hears : goal.returns-clause-hears
returns-clause-hears c = λ h holds.
    heard_as _ h (calls.Prune c.args.node) _ _ c.pruned.ensures.value (hears_prune _ _ h c.args.node c.prune.result holds (c.prune.ensures h holds))
