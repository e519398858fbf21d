use Rattle.std.proofs.Common.{◌≡◌, ◌++◌, ◌∷◌, [], ◌+◌, List, map, take, sym, ◌∙◌, ap, arith}
use Rattle.std.proofs.lemmas.List.{take_all, take_more, map-append}
use Rattle.esx_figures.specs.declared.steps.Step.{Step}
use Rattle.esx_figures.specs.Steps.{steps}
use Rattle.esx_story.specs.Moments.{moments}
use Rattle.esx_report.specs.declared.steps.StepRow.{StepRow}
use Rattle.esx_paths.specs.declared.way.Waypoint.{Waypoint}
use Rattle.esx_account.specs.Watching.{step_row}
use Rattle.esx_account.proofs.watching.rows_of.Goals as goal

pub loop-step-preserved : goal.loop-step-preserved
loop-step-preserved c =
    let ws : List Waypoint = c.as_slice-waypoints.result.now in
    let all : List Step = c.steps-steps.result.now in
    let i = c.loop-step.step-index in
    let front : List StepRow = map (step_row ws) (take i all) in
    c.in_ok-push.ensures.items ∙ ap (λ (rows : List StepRow). rows ++ c.step_row.result ∷ []) c.loop-step.invariant ∙ ap (λ (row : StepRow). front ++ row ∷ []) c.step_row.ensures
    ∙ sym (map-append (step_row ws) (take i all) (c.step-item.result ∷ []))
    ∙ sym (ap (map (step_row ws)) (take_more all i c.step-item.result c.loop-step-test.true ∙ ap (λ (s : Step). take i all ++ s ∷ []) (sym c.step-item.is)))

pub returns : goal.returns
returns c = λ site es watch. (
    let all : List Step = c.steps-steps.result.now in
    c.loop-step.invariant ∙ ap (map (step_row c.as_slice-waypoints.result.now)) (take_all c.loop-step.step-index all (omega arith) ∙ c.steps-steps.ensures site es watch)
    ∙ ap (λ (ws : List Waypoint). map (step_row ws) (steps site (moments site es))) c.as_slice-waypoints.ensures)
