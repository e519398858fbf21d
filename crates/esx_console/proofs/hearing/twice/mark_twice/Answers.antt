use Rattle.esx_events.specs.declared.call.Call.TheVariants as calls
use Rattle.esx_console.proofs.Outcomes.{hears_mark, hears_mark_refused, heard_as}
use Rattle.esx_console.proofs.Twice.{both_heard_where}
use Rattle.esx_console.proofs.hearing.twice.mark_twice.Goals as goal

pub returns-in-Ok-clause-ok : goal.returns-in-Ok-clause-ok
returns-in-Ok-clause-ok c = λ h holds.
    let call = calls.Mark c.args.name.now in
    let named = c.in-Ok.ensures h holds in (
      heard_as _ h call _ _ c.answered.ensures (hears_mark _ h c.args.name.now c.in_ok-said.said c.in-Ok.node c.in_ok-said.ensures named),
      heard_as _ h call _ _ c.answered-in-Ok.ensures (hears_mark _ h c.args.name.now c.in_ok-copy.copy c.in-Ok.node c.in_ok-copy.ensures named),
    )

pub returns-in-Err-clause-ok : goal.returns-in-Err-clause-ok
returns-in-Err-clause-ok c =
    let refused = c.unchanged_twice in
    both_heard_where _ _ (calls.Mark c.args.name.now) _ refused.result refused.ensures.value refused.ensures.other
    (λ other h holds. hears_mark_refused _ _ h c.args.name.now c.in-Err.refusal holds (c.in-Err.ensures h holds) other)
