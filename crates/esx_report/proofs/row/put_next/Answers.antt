use Rattle.std.proofs.Common.{◌∙◌, refl}
use Rattle.esx_writing.proofs.WritingLemmas.{first_failed, puts_after}
use Rattle.esx_report.proofs.row.put_next.Goals as goal

pub returns-in_err-put-clause-bytes : goal.returns-in_err-put-clause-bytes
returns-in_err-put-clause-bytes g c =
    first_failed (g.W.Sink.contents c.args.sink.now) (g.W.Sink.contents c.put.new.sink) c.args.held.now c.put.new.held
    _ g.C.Column.separator (g.C.Column.text c.args.column.now) c.from_residual.result c.from_residual.ensures.0 (c.as_bytes.ensures.value ∙ c.separator.ensures) c.in_err-put.ensures.bytes

pub returns-clause-bytes : goal.returns-clause-bytes
returns-clause-bytes g c =
    puts_after (g.W.Sink.contents c.args.sink.now) (g.W.Sink.contents c.put.new.sink) (g.W.Sink.contents c.put-2.new.sink) c.args.held.now c.put.new.held c.put-2.new.held
    _ g.C.Column.separator (g.C.Column.text c.args.column.now) (g.C.Column.text c.args.column.now) c.put-2.result (c.as_bytes.ensures.value ∙ c.separator.ensures) refl c.in_ok-put.ensures.bytes c.put-2.ensures.bytes
