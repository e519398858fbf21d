use Rattle.std.proofs.Common.{refl, length}
use Rattle.std.specs.Prelude.{flat_map}
use Rattle.esx_session.specs.Sessions.{end_text}
use Rattle.esx_session.specs.Printing.{line_text}
use Rattle.esx_writing.proofs.WritingLemmas.{first_failed, puts_after, utf8_after}
use Rattle.esx_session.proofs.printing.put_calls.Goals as goal

pub returns-in_err-put_log-clause-bytes : goal.returns-in_err-put_log-clause-bytes
returns-in_err-put_log-clause-bytes g c =
    first_failed (g.W.Sink.contents c.args.sink.now) (g.W.Sink.contents c.put_log.new.sink) c.args.held.now c.put_log.new.held (flat_map line_text c.args.log.now) (flat_map line_text c.args.log.now) (end_text (length c.args.log.now))
    c.from_residual.result c.from_residual.ensures.0 refl c.in_err-put_log.ensures.bytes

pub returns-clause-bytes : goal.returns-clause-bytes
returns-clause-bytes g c =
    puts_after (g.W.Sink.contents c.args.sink.now) (g.W.Sink.contents c.put_log.new.sink) (g.W.Sink.contents c.put_end.new.sink) c.args.held.now c.put_log.new.held c.put_end.new.held
    (flat_map line_text c.args.log.now) (flat_map line_text c.args.log.now) (end_text (length c.args.log.now)) (end_text (length c.args.log.now)) c.put_end.result refl refl c.in_ok-put_log.ensures.bytes c.put_end.ensures.bytes

pub returns-clause-utf8 : goal.returns-clause-utf8
returns-clause-utf8 g c = utf8_after (flat_map line_text c.args.log.now) (end_text (length c.args.log.now)) c.put_end.result c.in_ok-put_log.ensures.utf8 c.put_end.ensures.utf8
