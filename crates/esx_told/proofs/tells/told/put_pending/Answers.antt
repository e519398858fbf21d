use Rattle.std.proofs.Common.{[], ◌++◌, sym, append-nil}
use Rattle.esx_session.specs.Printing.{line_text}
use Rattle.esx_words.proofs.PrintingLemmas.{puts_same}
use Rattle.esx_told.proofs.tells.told.put_pending.Goals as goal

pub returns-in-Kept-clause-bytes : goal.returns-in-Kept-clause-bytes
returns-in-Kept-clause-bytes g c = rw c.in-Kept.is
    (puts_same (g.W.Sink.contents c.args.sink.now) (g.W.Sink.contents c.put_line.new.sink) c.args.held.now c.put_line.new.held
    (line_text c.in-Kept.line) (line_text c.in-Kept.line ++ []) c.put_line.result (sym (append-nil (line_text c.in-Kept.line))) c.put_line.ensures.bytes)
