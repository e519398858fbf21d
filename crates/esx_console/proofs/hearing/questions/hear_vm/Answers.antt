use Rattle.std.proofs.Common.{◌≡◌, ◌∙◌, sym, ap, subst, Result, IsOk, OnErr}
use Rattle.esx_events.specs.declared.event.Refusal.{Refusal}
use Rattle.esx_events.specs.declared.call.Activity.{Activity}
use Rattle.esx_events.specs.declared.call.Call.TheVariants as calls
use Rattle.esx_model.specs.Readings.{activity}
use Rattle.esx_model.specs.History.{book_at}
use Rattle.esx_model.specs.Console.{activity_said}
use Rattle.esx_model.specs.Console.{outcome}
use Rattle.esx_console.proofs.Outcomes.{beside, asks}
use Rattle.esx_console.proofs.hearing.questions.hear_vm.Goals as goal

pub returns-clause-ok : goal.returns-clause-ok
unfolding outcome
returns-clause-ok c = asks _ (calls.OfVm c.args.vm) (activity_said c.of_vm.result)
    (λ h holds. ap (beside h) (sym (ap activity_said (c.of_vm.ensures ∙ ap (λ b. activity b c.args.vm) (c.machine.ensures.book h holds))))) c.activity_heard.result c.activity_heard.ensures.value

pub returns-clause-there : goal.returns-clause-there
returns-clause-there c = λ h holds.
    let found : c.of_vm.result ≡ activity (book_at h) c.args.vm = c.of_vm.ensures ∙ ap (λ b. activity b c.args.vm) (c.machine.ensures.book h holds) in
    let P : Result Activity Refusal → Type 0 = λ r. OnErr c.activity_heard.result (IsOk r) in
    subst P found c.activity_heard.ensures.there
