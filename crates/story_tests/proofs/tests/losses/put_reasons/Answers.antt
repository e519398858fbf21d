use Rattle.std.proofs.Common.{sym, subst}
use Rattle.esx_story.specs.declared.story.Loss.{Loss}
use Rattle.esx_story.specs.Order.{HasGoodRows}
use Rattle.story_tests.proofs.tests.losses.put_reasons.Goals as goal

pub line_of-requires : goal.line_of-requires
line_of-requires g c =
    let P : Loss → Type 0 = λ l. HasGoodRows l.seen.order in
    subst P (sym c.index-losses-at.is) (c.requires c.loop-at.at c.index-losses-at.result c.loop-at-test.true)
