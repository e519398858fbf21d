use Rattle.esx_events.specs.declared.call.Call.TheVariants as calls
use Rattle.esx_model.specs.History.{History}
use Rattle.esx_journal.specs.Journal.{Holds}
use Rattle.esx_console.specs.declared.hearing.Heard.{Heard}
use Rattle.esx_console.specs.Hearing.{Hears}
use Rattle.esx_console.proofs.Outcomes.{hears_event, hears_event_refused, heard_as, unless_memory}
use Rattle.esx_console.proofs.Twice.{where_err, err_then}
use Rattle.esx_console.proofs.hearing.events.hear_event.Goals as goal

pub returns-in-Ok-clause-ok : goal.returns-in-Ok-clause-ok
returns-in-Ok-clause-ok c = λ h holds.
    heard_as _ h (calls.Do c.args.event.now) _ _ c.answered.ensures (hears_event _ h c.args.event.now (c.in-Ok.answer, c.in-Ok.answer) (c.in-Ok.ensures h holds)).0

pub returns-in-Err : goal.returns-in-Err
returns-in-Err c =
    let P : Heard → Type 0 = λ x. (h : History) → Holds c.args.journal.now h → Hears c.apply_once.new.self h (calls.Do c.args.event.now) x in
    record {
      ok = unless_memory P c.in-Err.refusal c.unchanged.result c.unchanged.ensures.value c.unchanged.ensures.other
          (λ other. λ h holds. hears_event_refused _ _ h c.args.event.now c.in-Err.refusal holds (c.in-Err.ensures h holds) other);
      err = λ h holds. where_err c.unchanged.result (c.in-Err.ensures h holds).same;
      late = λ h holds. err_then c.unchanged.result (c.in-Err.ensures h holds).late c.unchanged.ensures.memory;
    }
