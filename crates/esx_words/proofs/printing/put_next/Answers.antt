use Rattle.std.proofs.Common.{refl, codes}
use Rattle.esx_reading.specs.Fields.{joined}
use Rattle.esx_words.specs.Commands.{event_words}
use Rattle.esx_writing.proofs.WritingLemmas.{first_failed, puts_after, utf8_after}
use Rattle.esx_words.proofs.printing.put_next.Goals as goal

pub returns-in_err-put_next_word-clause-bytes : goal.returns-in_err-put_next_word-clause-bytes
returns-in_err-put_next_word-clause-bytes g c =
    first_failed (g.W.Sink.contents c.args.sink.now) (g.W.Sink.contents c.put_next_word.new.sink) c.args.held.now c.put_next_word.new.held (codes "; ") (codes "; ") (joined (event_words c.args.event.now))
    c.from_residual.result c.from_residual.ensures.0 refl c.in_err-put_next_word.ensures.bytes

pub returns-clause-bytes : goal.returns-clause-bytes
returns-clause-bytes g c =
    puts_after (g.W.Sink.contents c.args.sink.now) (g.W.Sink.contents c.put_next_word.new.sink) (g.W.Sink.contents c.put_event.new.sink) c.args.held.now c.put_next_word.new.held c.put_event.new.held
    (codes "; ") (codes "; ") (joined (event_words c.args.event.now)) (joined (event_words c.args.event.now)) c.put_event.result refl refl c.in_ok-put_next_word.ensures.bytes c.put_event.ensures.bytes

pub returns-clause-utf8 : goal.returns-clause-utf8
returns-clause-utf8 g c = utf8_after (codes "; ") (joined (event_words c.args.event.now)) c.put_event.result c.in_ok-put_next_word.ensures.utf8 c.put_event.ensures.utf8
