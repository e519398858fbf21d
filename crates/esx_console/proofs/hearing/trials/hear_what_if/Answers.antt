use Rattle.std.proofs.Common.{◌≡◌, ◌∙◌, sym, ap, subst, List}
use Rattle.esx_events.specs.declared.event.Event.{Event}
use Rattle.esx_events.specs.declared.call.Call.TheVariants as calls
use Rattle.esx_events.specs.declared.call.Said.TheVariants as said
use Rattle.esx_events.specs.declared.call.Sides.{Sides}
use Rattle.esx_model.specs.History.{History}
use Rattle.esx_model.specs.WhatIf.{what_if}
use Rattle.esx_model.specs.Console.{outcome}
use Rattle.esx_journal.specs.Journal.{Kept, Holds}
use Rattle.esx_console.specs.Hearing.{Hears}
use Rattle.esx_console.proofs.Outcomes.{beside, tells}
use Rattle.esx_console.proofs.hearing.trials.hear_what_if.Goals as goal

pub returns-clause-ok : goal.returns-clause-ok
unfolding outcome
returns-clause-ok c =
    let P : Kept → Type 0 = λ k. (h : History) → Holds c.args.journal.now h → Hears k h (calls.WhatIf c.args.events.now) c.answered.result in
    subst P (sym c.what_if.ensures.same) (tells _ (calls.WhatIf c.args.events.now) (said.Sides c.in_ok-new.field-0)
    (λ h holds.
    let sides : c.in_ok-new.field-0 ≡ what_if c.args.events.now h = c.in_ok-new.ensures ∙ c.in_ok-sides.ensures.sides h holds ∙ ap (λ (es : List Event). what_if es h) c.as_slice.ensures.value in
    sym (ap (λ (s : Sides). beside h (said.Sides s)) sides)) c.answered.result c.answered.ensures)
