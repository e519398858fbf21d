use Rattle.std.proofs.Common.{◌<◌, ◌∙◌, subst, sym, arith, ℕ}
use Rattle.esx_explained.specs.Amiss.{MayBe, MayBeBefore}
use Rattle.esx_explained.proofs.LineLemmas.{one_read, all_read, each_more}
use Rattle.esx_explained.proofs.amiss.amiss_operands.Goals as goal

pub loop-word-preserved : goal.loop-word-preserved
loop-word-preserved c =
    let now = c.loop-word.invariant in
    let left = now.left ∙ c.in-Some.ensures.left in
    let read = one_read c.args.fields.now c.next.new.self c.in-Some.word.now c.loop-word.at left in
    let may : MayBe c.args.command c.loop-word.at c.in-Some.word.now =
    (c.in-Some-operand_at.operand, sym c.operand_at.ensures ∙ c.in-Some-operand_at.is, c.may_be.ensures.0 c.if-not-may_be.false) in
    record {
      within = read.0;
      left = read.1;
      before = each_more (MayBe c.args.command) c.args.fields.now c.next.new.self c.in-Some.word.now c.loop-word.at left may now.before;
    }

pub returns-then-at-least : goal.returns-then-at-least
returns-then-at-least c =
    let now = c.loop-word.invariant in (
      all_read c.args.fields.now c.loop-word.at now.within (now.left ∙ c.in_default.ensures.left),
      subst (λ (n : ℕ). c.loop-word.at < n) c.least.ensures c.if-at-least.true,
      now.before,
    )

pub returns : goal.returns
returns c =
    let now = c.loop-word.invariant in
    let all = all_read c.args.fields.now c.loop-word.at now.within (now.left ∙ c.in_default.ensures.left) in
    let enough = c.if-at-least.false in
    let least = c.least.ensures in
    (omega arith, subst (λ (n : ℕ). MayBeBefore c.args.command c.args.fields.now n) (sym all) now.before)
