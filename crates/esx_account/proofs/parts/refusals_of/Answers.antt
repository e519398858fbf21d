use Rattle.std.proofs.Common.{◌≡◌, ◌∙◌, ap, arith}
use Rattle.esx_account.specs.Account.{refusals_below}
use Rattle.esx_account.proofs.Refusals.{none_below, one_more_reason}
use Rattle.esx_account.proofs.parts.refusals_of.Goals as goal

pub loop-number-init : goal.loop-number-init
loop-number-init c = λ site ms mets is. c.in_ok-counts.ensures.items ∙ none_below mets

pub loop-number-preserved : goal.loop-number-preserved
loop-number-preserved c = λ site ms mets is.
    one_more_reason c.loop-number.number mets c.loop-number.counts.items c.push.new.self.items c.refused.result c.in_ok-push.ensures.items
    (c.loop-number.invariant site ms mets is) (c.refused.ensures site ms mets is)

pub returns : goal.returns
returns c = λ site ms mets is. (
    let last : c.loop-number.number ≡ 28 = omega arith in
    c.loop-number.invariant site ms mets is ∙ ap (λ k. refusals_below k mets) last)
