use Rattle.esx_events.specs.declared.call.Call.TheVariants as calls
use Rattle.esx_model.specs.History.{History}
use Rattle.esx_journal.specs.Journal.{Holds}
use Rattle.esx_console.specs.declared.hearing.Heard.{Heard}
use Rattle.esx_console.specs.Hearing.{Hears}
use Rattle.esx_console.proofs.Outcomes.{hears_mark, hears_mark_refused, heard_as, unless_memory}
use Rattle.esx_console.proofs.hearing.marks.hear_mark.Goals as goal

pub returns-in-Ok-clause-ok : goal.returns-in-Ok-clause-ok
returns-in-Ok-clause-ok c = λ h holds. heard_as _ h (calls.Mark c.args.name.now) _ _ c.answered.ensures
    (hears_mark _ h c.args.name.now c.in_ok-copy.copy c.in-Ok.node c.in_ok-copy.ensures (c.in-Ok.ensures h holds))

pub returns-in-Err-clause-ok : goal.returns-in-Err-clause-ok
returns-in-Err-clause-ok c =
    let P : Heard → Type 0 = λ x. (h : History) → Holds c.args.journal.now h → Hears c.mark.new.self h (calls.Mark c.args.name.now) x in
    unless_memory P c.in-Err.refusal c.unchanged.result c.unchanged.ensures.value c.unchanged.ensures.other
    (λ other. λ h holds. hears_mark_refused _ _ h c.args.name.now c.in-Err.refusal holds (c.in-Err.ensures h holds) other)
