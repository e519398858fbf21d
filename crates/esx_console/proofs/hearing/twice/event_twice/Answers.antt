use Rattle.esx_events.specs.declared.call.Call.TheVariants as calls
use Rattle.esx_console.proofs.Outcomes.{hears_event, hears_event_refused, heard_as}
use Rattle.esx_console.proofs.Twice.{both_heard_where}
use Rattle.esx_console.proofs.hearing.twice.event_twice.Goals as goal

pub returns-in-Ok-clause-ok : goal.returns-in-Ok-clause-ok
returns-in-Ok-clause-ok c = λ h holds.
    let call = calls.Do c.args.event.now in
    let hears = hears_event _ h c.args.event.now (c.in-Ok.answer, c.in-Ok.copy) (c.in-Ok.ensures h holds) in
    (heard_as _ h call _ _ c.answered.ensures hears.0, heard_as _ h call _ _ c.answered-in-Ok.ensures hears.1)

pub returns-in-Err-clause-ok : goal.returns-in-Err-clause-ok
returns-in-Err-clause-ok c =
    let refused = c.unchanged_twice in
    both_heard_where _ _ (calls.Do c.args.event.now) _ refused.result refused.ensures.value refused.ensures.other
    (λ other h holds. hears_event_refused _ _ h c.args.event.now c.in-Err.refusal holds (c.in-Err.ensures h holds) other)
