use Rattle.std.proofs.Common.{flat_map, length, refl}
use Rattle.esx_report.specs.Why.{why_head, why_text}
use Rattle.esx_writing.proofs.WritingLemmas.{first_failed}
use Rattle.esx_report.proofs.BehindLemmas.{puts_behind}
use Rattle.esx_report.proofs.why.put_whys.Goals as goal

pub returns-in_err-put_why_head-clause-bytes : goal.returns-in_err-put_why_head-clause-bytes
returns-in_err-put_why_head-clause-bytes g c =
    first_failed (g.W.Sink.contents c.args.sink.now) (g.W.Sink.contents c.put_why_head.new.sink) c.args.held.now c.put_why_head.new.held (why_head (length c.args.whys.now)) (why_head (length c.args.whys.now)) (flat_map why_text c.args.whys.now) c.from_residual.result c.from_residual.ensures.0 refl c.in_err-put_why_head.ensures.bytes

pub returns-clause-bytes : goal.returns-clause-bytes
returns-clause-bytes g c =
    puts_behind (g.W.Sink.contents c.args.sink.now) (g.W.Sink.contents c.put_why_head.new.sink) (g.W.Sink.contents c.put_each.new.sink) c.args.held.now c.put_why_head.new.held c.put_each.new.held (why_head (length c.args.whys.now)) (flat_map why_text c.args.whys.now) c.put_each.result c.in_ok-put_why_head.ensures.bytes c.put_each.ensures.bytes
