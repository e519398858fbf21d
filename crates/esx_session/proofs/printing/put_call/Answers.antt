use Rattle.std.proofs.Common.{◌++◌, refl, codes, decimal, append_assoc}
use Rattle.esx_words.specs.Commands.{spelling}
use Rattle.esx_session.specs.Sessions.{call_text, logged}
use Rattle.esx_words.proofs.PrintingLemmas.{puts_same, utf8_same}
use Rattle.esx_writing.proofs.WritingLemmas.{first_failed, puts_after, utf8_after}
use Rattle.esx_session.proofs.printing.put_call.Goals as goal

pub returns-in_err-put_caller-clause-bytes : goal.returns-in_err-put_caller-clause-bytes
returns-in_err-put_caller-clause-bytes g c =
    puts_same (g.W.Sink.contents c.args.sink.now) (g.W.Sink.contents c.put_caller.new.sink) c.args.held.now c.put_caller.new.held ((decimal c.args.line.now.caller ++ codes " ") ++ (spelling c.args.line.now.call ++ codes "\n")) (call_text (logged c.args.line.now)) c.from_residual.result (append_assoc (decimal c.args.line.now.caller) (codes " ") (spelling c.args.line.now.call ++ codes "\n"))
    (first_failed (g.W.Sink.contents c.args.sink.now) (g.W.Sink.contents c.put_caller.new.sink) c.args.held.now c.put_caller.new.held (decimal c.args.line.now.caller ++ codes " ") (decimal c.args.line.now.caller ++ codes " ") (spelling c.args.line.now.call ++ codes "\n")
    c.from_residual.result c.from_residual.ensures.0 refl c.in_err-put_caller.ensures.bytes)

pub returns-clause-bytes : goal.returns-clause-bytes
returns-clause-bytes g c =
    puts_same (g.W.Sink.contents c.args.sink.now) (g.W.Sink.contents c.put_spelling.new.sink) c.args.held.now c.put_spelling.new.held ((decimal c.args.line.now.caller ++ codes " ") ++ (spelling c.args.line.now.call ++ codes "\n")) (call_text (logged c.args.line.now)) c.put_spelling.result (append_assoc (decimal c.args.line.now.caller) (codes " ") (spelling c.args.line.now.call ++ codes "\n"))
    (puts_after (g.W.Sink.contents c.args.sink.now) (g.W.Sink.contents c.put_caller.new.sink) (g.W.Sink.contents c.put_spelling.new.sink) c.args.held.now c.put_caller.new.held c.put_spelling.new.held
    (decimal c.args.line.now.caller ++ codes " ") (decimal c.args.line.now.caller ++ codes " ") (spelling c.args.line.now.call ++ codes "\n") (spelling c.args.line.now.call ++ codes "\n") c.put_spelling.result refl refl c.in_ok-put_caller.ensures.bytes c.put_spelling.ensures.bytes)

pub returns-clause-utf8 : goal.returns-clause-utf8
returns-clause-utf8 g c = utf8_same ((decimal c.args.line.now.caller ++ codes " ") ++ (spelling c.args.line.now.call ++ codes "\n")) (call_text (logged c.args.line.now)) c.put_spelling.result (append_assoc (decimal c.args.line.now.caller) (codes " ") (spelling c.args.line.now.call ++ codes "\n")) (utf8_after (decimal c.args.line.now.caller ++ codes " ") (spelling c.args.line.now.call ++ codes "\n") c.put_spelling.result c.in_ok-put_caller.ensures.utf8 c.put_spelling.ensures.utf8)
