use Rattle.std.proofs.Common.{◌∙◌, ap, arith, map}
use Rattle.std.proofs.lemmas.List.{take_all}
use Rattle.esx_story.specs.Order.{HasGoodRows}
use Rattle.esx_report.specs.declared.losses.LossLine.{LossLine}
use Rattle.esx_reports.specs.Reasons.{why_wanted, AreWhysOf}
use Rattle.esx_reports.proofs.Explained.{reason_held}
use Rattle.esx_reports.proofs.reasons.whys_of.Goals as goal

pub returns-clause-good : goal.returns-clause-good
returns-clause-good c =
    let opened = c.args.opened.now in
    let requests = c.args.script.now.requests in
    let lines = c.args.lines.now in
    let whole : AreWhysOf opened requests lines c.loop-line.whys.items = c.loop-line.invariant ∙ ap (map (why_wanted opened requests)) (take_all c.loop-line.line-index lines (omega arith)) in
    reason_held (λ (line : LossLine). HasGoodRows line.loss.seen.order) opened requests lines c.loop-line.whys.items whole c.requires.good
