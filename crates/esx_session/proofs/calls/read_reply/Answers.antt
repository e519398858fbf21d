use Rattle.std.proofs.Common.{inr}
use Rattle.esx_session.proofs.MemoryLemmas.{begins_reply}
use Rattle.esx_session.proofs.ReplyLemmas.{read_more, takes_reply, lacks_reply, not_empty}
use Rattle.esx_session.proofs.calls.read_reply.Goals as goal

pub loop-line-preserved : goal.loop-line-preserved
loop-line-preserved c =
    let some = c.in-Some.ensures.some in
    record {
      is = rw c.in-Ok.ensures (read_more c.args.place.now c.loop-line.place c.next_reply.new.self c.loop-line.reply.items some.0 c.in-Some.line.now c.loop-line.invariant.is some.1 c.in-Some.ensures.passed some.2 some.3);
      first = inr (begins_reply c.args.place.now.left c.loop-line.place.left some.0 c.in-Some.line.now _ c.loop-line.invariant.first some.1 some.2);
    }

pub returns-then-is_empty-clause-only : goal.returns-then-is_empty-clause-only
returns-then-is_empty-clause-only c =
    let none = c.in_default.ensures.none in
    lacks_reply c.args.place.now c.loop-line.place c.next_reply.new.self c.loop-line.reply.items c.loop-line.reply.len c.passed.result c.loop-line.reply.ok.0
    c.if-is_empty.ensures c.loop-line.invariant.is none.0 none.1 c.passed.ensures.value

pub returns-clause-ok : goal.returns-clause-ok
returns-clause-ok c =
    let none = c.in_default.ensures.none in
    rw (c.from_vec.ensures, none.0) (takes_reply c.args.place.now c.loop-line.place c.loop-line.reply.items c.loop-line.invariant.is
    (not_empty c.loop-line.reply.items c.loop-line.reply.len c.loop-line.reply.ok.0 c.if-is_empty.ensures) none.1)
