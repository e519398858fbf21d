use Rattle.std.proofs.Common.{refl}
use Rattle.esx_writing.proofs.WritingLemmas.{first_failed, puts_after}
use Rattle.esx_report.specs.Why.{guest_lines, memory_text}
use Rattle.esx_report.proofs.grounds.put_grounds.Goals as goal

pub returns-in_err-put_memory-clause-bytes : goal.returns-in_err-put_memory-clause-bytes
returns-in_err-put_memory-clause-bytes g c =
    first_failed (g.W.Sink.contents c.args.sink.now) (g.W.Sink.contents c.put_memory.new.sink) c.args.held.now c.put_memory.new.held (memory_text c.args.why.now) (memory_text c.args.why.now) (guest_lines c.args.why.now)
    c.from_residual.result c.from_residual.ensures.0 refl c.in_err-put_memory.ensures.bytes

pub returns-clause-bytes : goal.returns-clause-bytes
returns-clause-bytes g c =
    puts_after (g.W.Sink.contents c.args.sink.now) (g.W.Sink.contents c.put_memory.new.sink) (g.W.Sink.contents c.put_guest.new.sink) c.args.held.now c.put_memory.new.held c.put_guest.new.held
    (memory_text c.args.why.now) (memory_text c.args.why.now) (guest_lines c.args.why.now) (guest_lines c.args.why.now) c.put_guest.result refl refl c.in_ok-put_memory.ensures.bytes c.put_guest.ensures.bytes
