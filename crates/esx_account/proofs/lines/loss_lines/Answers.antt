use Rattle.std.proofs.Common.{ℕ, List, map, sym, ◌∙◌, ap, subst, arith}
use Rattle.std.specs.Prelude.{IsSome}
use Rattle.std.proofs.lemmas.List.{take_all}
use Rattle.esx_story.specs.declared.story.Loss.{Loss}
use Rattle.esx_story.specs.Moments.{moments}
use Rattle.esx_story.specs.Order.{HasGoodRows}
use Rattle.esx_story.specs.Story.{told}
use Rattle.esx_paths.specs.declared.way.Waypoint.{Waypoint}
use Rattle.esx_account.specs.Asking.{call_asked}
use Rattle.esx_account.specs.Lines.{waypoint_numbered, told_line, AreLinesOf}
use Rattle.esx_account.proofs.Losses.{loss_there, loss_held, call_held}
use Rattle.esx_account.proofs.Ways.{path_asked}
use Rattle.esx_account.proofs.lines.loss_lines.Goals as goal

pub loss_line-requires : goal.loss_line-requires
loss_line-requires c =
    let is = c.requires.along in
    let P : List Waypoint → Type 0 = λ ws. IsSome (waypoint_numbered ws c.loss-item.result.at) in
    subst P (sym c.as_slice-waypoints.ensures)
    (loss_there is.site is.events is.mets c.args.walk.now c.args.path.now.waypoints c.losses-losses.result.now c.loop-loss.loss-index c.loss-item.result is.walk is.long
    (c.losses-losses.ensures.all is.site is.events is.mets is.walk) c.loop-loss-test.true c.loss-item.is)

pub returns-clause-told : goal.returns-clause-told
returns-clause-told c = λ site es mets walk. (
    let losses : List Loss = c.losses-losses.result.now in
    let ws : List Waypoint = c.as_slice-waypoints.result.now in
    c.loop-loss.invariant ∙ ap (map (told_line ws)) (take_all c.loop-loss.loss-index losses (omega arith) ∙ c.losses-losses.ensures.told site es mets walk)
    ∙ ap (λ v. map (told_line v) (told site (moments site es) mets)) c.as_slice-waypoints.ensures)

pub returns-clause-good : goal.returns-clause-good
returns-clause-good c =
    let is = c.requires.along in
    let losses : List Loss = c.losses-losses.result.now in
    let ws : List Waypoint = c.as_slice-waypoints.result.now in
    let whole : AreLinesOf ws losses c.loop-loss.lines.items = c.loop-loss.invariant ∙ ap (map (told_line ws)) (take_all c.loop-loss.loss-index losses (omega arith)) in
    loss_held (λ (l : Loss). HasGoodRows l.seen.order) ws losses c.loop-loss.lines.items whole (c.losses-losses.ensures.good is.site is.events is.mets is.walk)

pub returns-clause-asked : goal.returns-clause-asked
returns-clause-asked c = λ site entries requests path. (
    let losses : List Loss = c.losses-losses.result.now in
    let ws : List Waypoint = c.as_slice-waypoints.result.now in
    let whole : AreLinesOf c.args.path.now.waypoints losses c.loop-loss.lines.items =
    c.loop-loss.invariant ∙ ap (map (told_line ws)) (take_all c.loop-loss.loss-index losses (omega arith)) ∙ ap (λ v. map (told_line v) losses) c.as_slice-waypoints.ensures in
    call_held (λ (number : ℕ). IsSome (call_asked requests number)) c.args.path.now.waypoints losses c.loop-loss.lines.items whole (path_asked site entries requests c.args.path.now path))
