use Rattle.std.proofs.Common.{ℕ, ap, refl, flat_map, length}
use Rattle.esx_session.specs.Sessions.{end_text}
use Rattle.esx_session.specs.Printing.{line_text}
use Rattle.esx_writing.proofs.WritingLemmas.{first_failed, puts_after}
use Rattle.esx_told.specs.Lines.{lines_of}
use Rattle.esx_told.proofs.tells.told.put_calls.Goals as goal

pub returns-in_err-put_lines-clause-bytes : goal.returns-in_err-put_lines-clause-bytes
returns-in_err-put_lines-clause-bytes g c =
    let lines = flat_map line_text (lines_of c.args.log.now) in
    first_failed (g.W.Sink.contents c.args.sink.now) (g.W.Sink.contents c.put_lines.new.sink) c.args.held.now c.put_lines.new.held lines lines (end_text (length (lines_of c.args.log.now)))
    c.from_residual.result c.from_residual.ensures.0 refl c.in_err-put_lines.ensures.bytes

pub returns-clause-bytes : goal.returns-clause-bytes
returns-clause-bytes g c =
    let lines = flat_map line_text (lines_of c.args.log.now) in
    puts_after (g.W.Sink.contents c.args.sink.now) (g.W.Sink.contents c.put_lines.new.sink) (g.W.Sink.contents c.put_end.new.sink) c.args.held.now c.put_lines.new.held c.put_end.new.held
    lines lines (end_text c.count.result) (end_text (length (lines_of c.args.log.now))) c.put_end.result refl (ap (λ (n : ℕ). end_text n) c.count.ensures) c.in_ok-put_lines.ensures.bytes c.put_end.ensures.bytes
