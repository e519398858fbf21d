use Rattle.std.proofs.Common.{◌∙◌, sym, ap}
use Rattle.esx_events.specs.declared.call.Call.TheVariants as calls
use Rattle.esx_events.specs.declared.call.Said.TheVariants as said
use Rattle.esx_model.specs.Console.{outcome}
use Rattle.esx_console.proofs.Outcomes.{beside, tells}
use Rattle.esx_console.proofs.hearing.marks.hear_marks.Goals as goal

pub returns : goal.returns
unfolding outcome
returns c = tells _ calls.Marks (said.Marks c.in_ok-new.field-0)
    (λ h holds. ap (beside h) (sym (ap said.Marks (c.in_ok-new.ensures ∙ c.in_ok-marks.ensures ∙ c.marks.ensures h holds)))) c.answered.result c.answered.ensures
