use Rattle.std.proofs.Common.{◌≡◌, filter, sym, ◌∙◌, ap, subst, arith}
use Rattle.std.specs.Prelude.{All, IsSome}
use Rattle.std.proofs.lemmas.List.{take_all}
use Rattle.std.proofs.lemmas.List.Elements.{All-filter}
use Rattle.esx_story.specs.Order.{HasGoodRows}
use Rattle.esx_report.specs.declared.losses.LossLine.{LossLine}
use Rattle.esx_account.specs.Asking.{call_asked}
use Rattle.esx_account.specs.Choosing.{is_asked}
use Rattle.esx_account.proofs.choosing.chosen.Goals as goal

pub returns-clause-good : goal.returns-clause-good
returns-clause-good c = λ good. (
    let asked = is_asked c.args.vm c.args.page in
    let whole : c.loop-line.chosen.items ≡ filter asked c.args.lines.now = c.loop-line.invariant ∙ ap (filter asked) (take_all c.loop-line.line-index c.args.lines.now (omega arith)) in
    let P : LossLine → Type 0 = λ line. HasGoodRows line.loss.seen.order in
    subst (All P) (sym whole) (All-filter asked P c.args.lines.now good))

pub returns-clause-asked : goal.returns-clause-asked
returns-clause-asked c = λ requests all. (
    let asked = is_asked c.args.vm c.args.page in
    let whole : c.loop-line.chosen.items ≡ filter asked c.args.lines.now = c.loop-line.invariant ∙ ap (filter asked) (take_all c.loop-line.line-index c.args.lines.now (omega arith)) in
    let P : LossLine → Type 0 = λ line. IsSome (call_asked requests line.call) in
    subst (All P) (sym whole) (All-filter asked P c.args.lines.now all))
