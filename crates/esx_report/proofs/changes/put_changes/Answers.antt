use Rattle.std.proofs.Common.{flat_map, refl}
use Rattle.esx_report.specs.Changes.{change_head, change_row}
use Rattle.esx_writing.proofs.WritingLemmas.{first_failed}
use Rattle.esx_report.proofs.BehindLemmas.{puts_behind}
use Rattle.esx_report.proofs.changes.put_changes.Goals as goal

pub returns-in_err-put_change_head-clause-bytes : goal.returns-in_err-put_change_head-clause-bytes
returns-in_err-put_change_head-clause-bytes g c =
    first_failed (g.W.Sink.contents c.args.sink.now) (g.W.Sink.contents c.put_change_head.new.sink) c.args.held.now c.put_change_head.new.held change_head change_head (flat_map change_row c.args.lines.now) c.from_residual.result c.from_residual.ensures.0 refl c.in_err-put_change_head.ensures.bytes

pub returns-clause-bytes : goal.returns-clause-bytes
returns-clause-bytes g c =
    puts_behind (g.W.Sink.contents c.args.sink.now) (g.W.Sink.contents c.put_change_head.new.sink) (g.W.Sink.contents c.put_change_rows.new.sink) c.args.held.now c.put_change_head.new.held c.put_change_rows.new.held change_head (flat_map change_row c.args.lines.now) c.put_change_rows.result c.in_ok-put_change_head.ensures.bytes c.put_change_rows.ensures.bytes
