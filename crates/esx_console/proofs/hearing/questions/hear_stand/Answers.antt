use Rattle.std.proofs.Common.{sym, ap}
use Rattle.esx_events.specs.declared.call.Call.TheVariants as calls
use Rattle.esx_events.specs.declared.call.Said.TheVariants as said
use Rattle.esx_model.specs.Console.{outcome}
use Rattle.esx_console.proofs.Outcomes.{beside, tells}
use Rattle.esx_console.proofs.hearing.questions.hear_stand.Goals as goal

pub returns : goal.returns
unfolding outcome
returns c = tells _ calls.Stand (said.Stand c.stand-stand.result)
    (λ h holds. ap (beside h) (sym (ap said.Stand (c.stand-stand.ensures h holds)))) c.answered.result c.answered.ensures
