use Rattle.std.proofs.Common.{◌++◌, flat_map, length, refl}
use Rattle.esx_report.specs.LossTable.{loss_heading, loss_line}
use Rattle.esx_report.specs.Site.{losses_heading}
use Rattle.esx_writing.proofs.WritingLemmas.{first_failed}
use Rattle.esx_report.proofs.BehindLemmas.{puts_behind}
use Rattle.esx_report.proofs.tables.put_losses_text.Goals as goal

pub returns-in_err-put_losses_heading-clause-bytes : goal.returns-in_err-put_losses_heading-clause-bytes
returns-in_err-put_losses_heading-clause-bytes g c =
    first_failed (g.W.Sink.contents c.args.sink.now) (g.W.Sink.contents c.put_losses_heading.new.sink) c.args.held.now c.put_losses_heading.new.held (losses_heading (length c.args.lines.now)) (losses_heading (length c.args.lines.now)) (loss_heading ++ (flat_map loss_line c.args.lines.now)) c.from_residual.result c.from_residual.ensures.0 refl c.in_err-put_losses_heading.ensures.bytes

pub returns-in_err-put_loss_heading-clause-bytes : goal.returns-in_err-put_loss_heading-clause-bytes
returns-in_err-put_loss_heading-clause-bytes g c =
    puts_behind (g.W.Sink.contents c.args.sink.now) (g.W.Sink.contents c.put_losses_heading.new.sink) (g.W.Sink.contents c.put_loss_heading.new.sink) c.args.held.now c.put_losses_heading.new.held c.put_loss_heading.new.held (losses_heading (length c.args.lines.now)) (loss_heading ++ (flat_map loss_line c.args.lines.now)) c.from_residual-in_err-put_loss_heading.result c.in_ok-put_losses_heading.ensures.bytes
    (first_failed (g.W.Sink.contents c.put_losses_heading.new.sink) (g.W.Sink.contents c.put_loss_heading.new.sink) c.put_losses_heading.new.held c.put_loss_heading.new.held loss_heading loss_heading (flat_map loss_line c.args.lines.now) c.from_residual-in_err-put_loss_heading.result c.from_residual-in_err-put_loss_heading.ensures.0 refl c.in_err-put_loss_heading.ensures.bytes)

pub returns-clause-bytes : goal.returns-clause-bytes
returns-clause-bytes g c =
    puts_behind (g.W.Sink.contents c.args.sink.now) (g.W.Sink.contents c.put_losses_heading.new.sink) (g.W.Sink.contents c.put_loss_lines.new.sink) c.args.held.now c.put_losses_heading.new.held c.put_loss_lines.new.held (losses_heading (length c.args.lines.now)) (loss_heading ++ (flat_map loss_line c.args.lines.now)) c.put_loss_lines.result c.in_ok-put_losses_heading.ensures.bytes
    (puts_behind (g.W.Sink.contents c.put_losses_heading.new.sink) (g.W.Sink.contents c.put_loss_heading.new.sink) (g.W.Sink.contents c.put_loss_lines.new.sink) c.put_losses_heading.new.held c.put_loss_heading.new.held c.put_loss_lines.new.held loss_heading (flat_map loss_line c.args.lines.now) c.put_loss_lines.result c.in_ok-put_loss_heading.ensures.bytes c.put_loss_lines.ensures.bytes)
