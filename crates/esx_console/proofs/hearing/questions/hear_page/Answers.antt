use Rattle.std.proofs.Common.{◌∙◌, sym, ap}
use Rattle.esx_events.specs.declared.call.Call.TheVariants as calls
use Rattle.esx_model.specs.Readings.{page_state}
use Rattle.esx_model.specs.Console.{page_said}
use Rattle.esx_model.specs.Console.{outcome}
use Rattle.esx_console.proofs.Outcomes.{beside, tells}
use Rattle.esx_console.proofs.hearing.questions.hear_page.Goals as goal

pub returns : goal.returns
unfolding outcome
returns c = tells _ (calls.OfPage c.args.vm c.args.page) (page_said c.of_page.result)
    (λ h holds. (ap (beside h) (sym (ap page_said (c.of_page.ensures ∙ ap (λ b. page_state b c.args.vm c.args.page) (c.machine.ensures.book h holds)))))) c.page_heard.result c.page_heard.ensures
