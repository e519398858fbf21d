use Rattle.std.proofs.Common.{◌++◌, refl}
use Rattle.esx_report.specs.Site.{level_losses_heading, level_losses_line}
use Rattle.esx_writing.proofs.WritingLemmas.{first_failed}
use Rattle.esx_report.proofs.BehindLemmas.{puts_behind}
use Rattle.esx_report.proofs.tables.put_losses_by_level.Goals as goal

pub returns-in_err-put_level_losses_heading-clause-bytes : goal.returns-in_err-put_level_losses_heading-clause-bytes
returns-in_err-put_level_losses_heading-clause-bytes g c =
    first_failed (g.W.Sink.contents c.args.sink.now) (g.W.Sink.contents c.put_level_losses_heading.new.sink) c.args.held.now c.put_level_losses_heading.new.held level_losses_heading level_losses_heading ((level_losses_line c.args.losses.now.high) ++ ((level_losses_line c.args.losses.now.soft) ++ ((level_losses_line c.args.losses.now.hard) ++ (level_losses_line c.args.losses.now.low)))) c.from_residual.result c.from_residual.ensures.0 refl c.in_err-put_level_losses_heading.ensures.bytes

pub returns-in_err-put_level_losses-clause-bytes : goal.returns-in_err-put_level_losses-clause-bytes
returns-in_err-put_level_losses-clause-bytes g c =
    puts_behind (g.W.Sink.contents c.args.sink.now) (g.W.Sink.contents c.put_level_losses_heading.new.sink) (g.W.Sink.contents c.put_level_losses.new.sink) c.args.held.now c.put_level_losses_heading.new.held c.put_level_losses.new.held level_losses_heading ((level_losses_line c.args.losses.now.high) ++ ((level_losses_line c.args.losses.now.soft) ++ ((level_losses_line c.args.losses.now.hard) ++ (level_losses_line c.args.losses.now.low)))) c.from_residual-in_err-put_level_losses.result c.in_ok-put_level_losses_heading.ensures.bytes
    (first_failed (g.W.Sink.contents c.put_level_losses_heading.new.sink) (g.W.Sink.contents c.put_level_losses.new.sink) c.put_level_losses_heading.new.held c.put_level_losses.new.held (level_losses_line c.args.losses.now.high) (level_losses_line c.args.losses.now.high) ((level_losses_line c.args.losses.now.soft) ++ ((level_losses_line c.args.losses.now.hard) ++ (level_losses_line c.args.losses.now.low))) c.from_residual-in_err-put_level_losses.result c.from_residual-in_err-put_level_losses.ensures.0 refl c.in_err-put_level_losses.ensures.bytes)

pub returns-in_err-put_level_losses-2-clause-bytes : goal.returns-in_err-put_level_losses-2-clause-bytes
returns-in_err-put_level_losses-2-clause-bytes g c =
    puts_behind (g.W.Sink.contents c.args.sink.now) (g.W.Sink.contents c.put_level_losses_heading.new.sink) (g.W.Sink.contents c.put_level_losses-2.new.sink) c.args.held.now c.put_level_losses_heading.new.held c.put_level_losses-2.new.held level_losses_heading ((level_losses_line c.args.losses.now.high) ++ ((level_losses_line c.args.losses.now.soft) ++ ((level_losses_line c.args.losses.now.hard) ++ (level_losses_line c.args.losses.now.low)))) c.from_residual-in_err-put_level_losses-2.result c.in_ok-put_level_losses_heading.ensures.bytes
    (puts_behind (g.W.Sink.contents c.put_level_losses_heading.new.sink) (g.W.Sink.contents c.put_level_losses.new.sink) (g.W.Sink.contents c.put_level_losses-2.new.sink) c.put_level_losses_heading.new.held c.put_level_losses.new.held c.put_level_losses-2.new.held (level_losses_line c.args.losses.now.high) ((level_losses_line c.args.losses.now.soft) ++ ((level_losses_line c.args.losses.now.hard) ++ (level_losses_line c.args.losses.now.low))) c.from_residual-in_err-put_level_losses-2.result c.in_ok-put_level_losses.ensures.bytes
    (first_failed (g.W.Sink.contents c.put_level_losses.new.sink) (g.W.Sink.contents c.put_level_losses-2.new.sink) c.put_level_losses.new.held c.put_level_losses-2.new.held (level_losses_line c.args.losses.now.soft) (level_losses_line c.args.losses.now.soft) ((level_losses_line c.args.losses.now.hard) ++ (level_losses_line c.args.losses.now.low)) c.from_residual-in_err-put_level_losses-2.result c.from_residual-in_err-put_level_losses-2.ensures.0 refl c.in_err-put_level_losses-2.ensures.bytes))

pub returns-in_err-put_level_losses-3-clause-bytes : goal.returns-in_err-put_level_losses-3-clause-bytes
returns-in_err-put_level_losses-3-clause-bytes g c =
    puts_behind (g.W.Sink.contents c.args.sink.now) (g.W.Sink.contents c.put_level_losses_heading.new.sink) (g.W.Sink.contents c.put_level_losses-3.new.sink) c.args.held.now c.put_level_losses_heading.new.held c.put_level_losses-3.new.held level_losses_heading ((level_losses_line c.args.losses.now.high) ++ ((level_losses_line c.args.losses.now.soft) ++ ((level_losses_line c.args.losses.now.hard) ++ (level_losses_line c.args.losses.now.low)))) c.from_residual-in_err-put_level_losses-3.result c.in_ok-put_level_losses_heading.ensures.bytes
    (puts_behind (g.W.Sink.contents c.put_level_losses_heading.new.sink) (g.W.Sink.contents c.put_level_losses.new.sink) (g.W.Sink.contents c.put_level_losses-3.new.sink) c.put_level_losses_heading.new.held c.put_level_losses.new.held c.put_level_losses-3.new.held (level_losses_line c.args.losses.now.high) ((level_losses_line c.args.losses.now.soft) ++ ((level_losses_line c.args.losses.now.hard) ++ (level_losses_line c.args.losses.now.low))) c.from_residual-in_err-put_level_losses-3.result c.in_ok-put_level_losses.ensures.bytes
    (puts_behind (g.W.Sink.contents c.put_level_losses.new.sink) (g.W.Sink.contents c.put_level_losses-2.new.sink) (g.W.Sink.contents c.put_level_losses-3.new.sink) c.put_level_losses.new.held c.put_level_losses-2.new.held c.put_level_losses-3.new.held (level_losses_line c.args.losses.now.soft) ((level_losses_line c.args.losses.now.hard) ++ (level_losses_line c.args.losses.now.low)) c.from_residual-in_err-put_level_losses-3.result c.in_ok-put_level_losses-2.ensures.bytes
    (first_failed (g.W.Sink.contents c.put_level_losses-2.new.sink) (g.W.Sink.contents c.put_level_losses-3.new.sink) c.put_level_losses-2.new.held c.put_level_losses-3.new.held (level_losses_line c.args.losses.now.hard) (level_losses_line c.args.losses.now.hard) (level_losses_line c.args.losses.now.low) c.from_residual-in_err-put_level_losses-3.result c.from_residual-in_err-put_level_losses-3.ensures.0 refl c.in_err-put_level_losses-3.ensures.bytes)))

pub returns-clause-bytes : goal.returns-clause-bytes
returns-clause-bytes g c =
    puts_behind (g.W.Sink.contents c.args.sink.now) (g.W.Sink.contents c.put_level_losses_heading.new.sink) (g.W.Sink.contents c.put_level_losses-4.new.sink) c.args.held.now c.put_level_losses_heading.new.held c.put_level_losses-4.new.held level_losses_heading ((level_losses_line c.args.losses.now.high) ++ ((level_losses_line c.args.losses.now.soft) ++ ((level_losses_line c.args.losses.now.hard) ++ (level_losses_line c.args.losses.now.low)))) c.put_level_losses-4.result c.in_ok-put_level_losses_heading.ensures.bytes
    (puts_behind (g.W.Sink.contents c.put_level_losses_heading.new.sink) (g.W.Sink.contents c.put_level_losses.new.sink) (g.W.Sink.contents c.put_level_losses-4.new.sink) c.put_level_losses_heading.new.held c.put_level_losses.new.held c.put_level_losses-4.new.held (level_losses_line c.args.losses.now.high) ((level_losses_line c.args.losses.now.soft) ++ ((level_losses_line c.args.losses.now.hard) ++ (level_losses_line c.args.losses.now.low))) c.put_level_losses-4.result c.in_ok-put_level_losses.ensures.bytes
    (puts_behind (g.W.Sink.contents c.put_level_losses.new.sink) (g.W.Sink.contents c.put_level_losses-2.new.sink) (g.W.Sink.contents c.put_level_losses-4.new.sink) c.put_level_losses.new.held c.put_level_losses-2.new.held c.put_level_losses-4.new.held (level_losses_line c.args.losses.now.soft) ((level_losses_line c.args.losses.now.hard) ++ (level_losses_line c.args.losses.now.low)) c.put_level_losses-4.result c.in_ok-put_level_losses-2.ensures.bytes
    (puts_behind (g.W.Sink.contents c.put_level_losses-2.new.sink) (g.W.Sink.contents c.put_level_losses-3.new.sink) (g.W.Sink.contents c.put_level_losses-4.new.sink) c.put_level_losses-2.new.held c.put_level_losses-3.new.held c.put_level_losses-4.new.held (level_losses_line c.args.losses.now.hard) (level_losses_line c.args.losses.now.low) c.put_level_losses-4.result c.in_ok-put_level_losses-3.ensures.bytes c.put_level_losses-4.ensures.bytes)))
