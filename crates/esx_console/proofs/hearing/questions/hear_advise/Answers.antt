use Rattle.std.proofs.Common.{◌∙◌, sym, ap}
use Rattle.esx_events.specs.declared.call.Call.TheVariants as calls
use Rattle.esx_model.specs.Advice.{advice}
use Rattle.esx_model.specs.History.{scene_at}
use Rattle.esx_machine.specs.Machine.{Kept}
use Rattle.esx_model.specs.Console.{help_said}
use Rattle.esx_model.specs.Console.{outcome}
use Rattle.esx_console.proofs.Outcomes.{beside, tells}
use Rattle.esx_console.proofs.hearing.questions.hear_advise.Goals as goal

pub returns : goal.returns
unfolding outcome
returns c = tells _ (calls.Advise c.args.vm c.args.page) (help_said c.advise.result)
    (λ h holds. (ap (beside h) (sym (ap help_said (c.advise.ensures (scene_at h) (c.machine.ensures.shows h holds) ∙ ap (λ (k : Kept). advice k.config (scene_at h) c.args.vm c.args.page) (c.machine.ensures.tables h holds)))))) c.help_heard.result c.help_heard.ensures
