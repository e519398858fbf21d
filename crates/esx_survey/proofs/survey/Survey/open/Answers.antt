use Rattle.std.proofs.Common.{◌≡◌, ◌≢◌, List, [], sym, subst}
use Rattle.std.specs.Prelude.{Result, Ok, Err, IfErr, IsErrAnd}
use Rattle.esx_events.specs.declared.event.Refusal.{Refusal}
use Rattle.esx_events.specs.declared.event.Refusal.TheVariants.{OutOfMemory}
use Rattle.esx_story.specs.Moments.{Moment}
use Rattle.esx_sums.specs.Accounts.{IsSums}
use Rattle.esx_sums.specs.Kept.{sums_of}
use Rattle.esx_survey.proofs.Along.{no_moments}
use Rattle.esx_survey.proofs.survey.Survey.open.Goals as goal

pub returns-clause-opens : goal.returns-clause-opens
returns-clause-opens c =
    let P : List Moment → Type 0 = λ ms. IsSums c.args.site ms [] (sums_of c.in_ok-sums.sums) in
    record { walk = c.in_ok-walk.ensures.opens; sums = subst P (sym (no_moments c.args.site)) c.in_ok-sums.ensures }

-- where memory runs out, nothing is claimed of other refusals
no_other : {T : Type 0} (r : Result T Refusal) (P : Refusal → Type 0) → IsErrAnd r (λ e. e ≡ OutOfMemory) → IfErr r (λ e. e ≢ OutOfMemory → P e)
no_other (Ok a) P same = tt
no_other (Err e) P same = λ other. absurd (other same)

pub returns-in_err-sums-clause-refused : goal.returns-in_err-sums-clause-refused
returns-in_err-sums-clause-refused c = no_other c.from_residual-in_err-sums.result _ c.from_residual-in_err-sums.ensures.1
