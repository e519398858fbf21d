use Rattle.std.proofs.Common.{arith}
use Rattle.esx_replies.proofs.SidesLemmas.{accepted_more}
use Rattle.esx_replies.proofs.sides.accepted.Goals as goal

pub loop-reply-preserved : goal.loop-reply-preserved
loop-reply-preserved c =
    let more = accepted_more c.args.replies.now c.loop-reply.reply-index c.reply-item.result c.loop-reply-test.true c.reply-item.is in
    record {
      counted = omega (arith, more, c.one_if_accepted-count.ensures.count, c.loop-reply.invariant.counted);
      few = omega (arith, c.one_if_accepted-count.ensures.few, c.loop-reply.invariant.few);
    }
