use Rattle.std.proofs.Common.{refl, codes}
use Rattle.esx_words.specs.Commands.{spelling}
use Rattle.esx_writing.proofs.WritingLemmas.{first_failed, puts_after, utf8_after}
use Rattle.esx_session.proofs.printing.put_spelling.Goals as goal

pub returns-in_err-put_command-clause-bytes : goal.returns-in_err-put_command-clause-bytes
returns-in_err-put_command-clause-bytes g c =
    first_failed (g.W.Sink.contents c.args.sink.now) (g.W.Sink.contents c.put_command.new.sink) c.args.held.now c.put_command.new.held (spelling c.args.call.now) (spelling c.args.call.now) (codes "\n")
    c.from_residual.result c.from_residual.ensures.0 refl c.in_err-put_command.ensures.bytes

pub returns-clause-bytes : goal.returns-clause-bytes
returns-clause-bytes g c =
    puts_after (g.W.Sink.contents c.args.sink.now) (g.W.Sink.contents c.put_command.new.sink) (g.W.Sink.contents c.put_feed.new.sink) c.args.held.now c.put_command.new.held c.put_feed.new.held
    (spelling c.args.call.now) (spelling c.args.call.now) (codes "\n") (codes "\n") c.put_feed.result refl refl c.in_ok-put_command.ensures.bytes c.put_feed.ensures.bytes

pub returns-clause-utf8 : goal.returns-clause-utf8
returns-clause-utf8 g c = utf8_after (spelling c.args.call.now) (codes "\n") c.put_feed.result c.in_ok-put_command.ensures.utf8 c.put_feed.ensures.utf8
