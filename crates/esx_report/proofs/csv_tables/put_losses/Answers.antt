use Rattle.std.proofs.Common.{flat_map, refl}
use Rattle.esx_report.specs.Losses.{loss_head, loss_row}
use Rattle.esx_writing.proofs.WritingLemmas.{first_failed}
use Rattle.esx_report.proofs.BehindLemmas.{puts_behind}
use Rattle.esx_report.proofs.csv_tables.put_losses.Goals as goal

pub returns-in_err-put_loss_head-clause-bytes : goal.returns-in_err-put_loss_head-clause-bytes
returns-in_err-put_loss_head-clause-bytes g c =
    first_failed (g.W.Sink.contents c.args.sink.now) (g.W.Sink.contents c.put_loss_head.new.sink) c.args.held.now c.put_loss_head.new.held loss_head loss_head (flat_map loss_row c.args.lines.now) c.from_residual.result c.from_residual.ensures.0 refl c.in_err-put_loss_head.ensures.bytes

pub returns-clause-bytes : goal.returns-clause-bytes
returns-clause-bytes g c =
    puts_behind (g.W.Sink.contents c.args.sink.now) (g.W.Sink.contents c.put_loss_head.new.sink) (g.W.Sink.contents c.put_loss_rows.new.sink) c.args.held.now c.put_loss_head.new.held c.put_loss_rows.new.held loss_head (flat_map loss_row c.args.lines.now) c.put_loss_rows.result c.in_ok-put_loss_head.ensures.bytes c.put_loss_rows.ensures.bytes
