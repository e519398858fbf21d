use Rattle.std.proofs.Common.{◌++◌, refl}
use Rattle.esx_report.specs.Report.{guests_text, losses_by_level, losses_text, report_begin, site_text}
use Rattle.esx_report.specs.Site.{report_end}
use Rattle.esx_writing.proofs.WritingLemmas.{first_failed}
use Rattle.esx_report.proofs.BehindLemmas.{puts_behind}
use Rattle.esx_report.proofs.report.put_report.Goals as goal

pub returns-in_err-put_report_begin-clause-bytes : goal.returns-in_err-put_report_begin-clause-bytes
returns-in_err-put_report_begin-clause-bytes g c =
    first_failed (g.W.Sink.contents c.args.sink.now) (g.W.Sink.contents c.put_report_begin.new.sink) c.args.held.now c.put_report_begin.new.held (report_begin c.args.told.now) (report_begin c.args.told.now) ((site_text c.args.told.now) ++ ((guests_text c.args.told.now.guests.now) ++ ((losses_by_level c.args.told.now.by_level) ++ ((losses_text c.args.told.now.losses.now) ++ report_end)))) c.from_residual.result c.from_residual.ensures.0 refl c.in_err-put_report_begin.ensures.bytes

pub returns-in_err-put_site_text-clause-bytes : goal.returns-in_err-put_site_text-clause-bytes
returns-in_err-put_site_text-clause-bytes g c =
    puts_behind (g.W.Sink.contents c.args.sink.now) (g.W.Sink.contents c.put_report_begin.new.sink) (g.W.Sink.contents c.put_site_text.new.sink) c.args.held.now c.put_report_begin.new.held c.put_site_text.new.held (report_begin c.args.told.now) ((site_text c.args.told.now) ++ ((guests_text c.args.told.now.guests.now) ++ ((losses_by_level c.args.told.now.by_level) ++ ((losses_text c.args.told.now.losses.now) ++ report_end)))) c.from_residual-in_err-put_site_text.result c.in_ok-put_report_begin.ensures.bytes
    (first_failed (g.W.Sink.contents c.put_report_begin.new.sink) (g.W.Sink.contents c.put_site_text.new.sink) c.put_report_begin.new.held c.put_site_text.new.held (site_text c.args.told.now) (site_text c.args.told.now) ((guests_text c.args.told.now.guests.now) ++ ((losses_by_level c.args.told.now.by_level) ++ ((losses_text c.args.told.now.losses.now) ++ report_end))) c.from_residual-in_err-put_site_text.result c.from_residual-in_err-put_site_text.ensures.0 refl c.in_err-put_site_text.ensures.bytes)

pub returns-in_err-put_guests_text-clause-bytes : goal.returns-in_err-put_guests_text-clause-bytes
returns-in_err-put_guests_text-clause-bytes g c =
    puts_behind (g.W.Sink.contents c.args.sink.now) (g.W.Sink.contents c.put_report_begin.new.sink) (g.W.Sink.contents c.put_guests_text.new.sink) c.args.held.now c.put_report_begin.new.held c.put_guests_text.new.held (report_begin c.args.told.now) ((site_text c.args.told.now) ++ ((guests_text c.args.told.now.guests.now) ++ ((losses_by_level c.args.told.now.by_level) ++ ((losses_text c.args.told.now.losses.now) ++ report_end)))) c.from_residual-in_err-put_guests_text.result c.in_ok-put_report_begin.ensures.bytes
    (puts_behind (g.W.Sink.contents c.put_report_begin.new.sink) (g.W.Sink.contents c.put_site_text.new.sink) (g.W.Sink.contents c.put_guests_text.new.sink) c.put_report_begin.new.held c.put_site_text.new.held c.put_guests_text.new.held (site_text c.args.told.now) ((guests_text c.args.told.now.guests.now) ++ ((losses_by_level c.args.told.now.by_level) ++ ((losses_text c.args.told.now.losses.now) ++ report_end))) c.from_residual-in_err-put_guests_text.result c.in_ok-put_site_text.ensures.bytes
    (first_failed (g.W.Sink.contents c.put_site_text.new.sink) (g.W.Sink.contents c.put_guests_text.new.sink) c.put_site_text.new.held c.put_guests_text.new.held (guests_text c.args.told.now.guests.now) (guests_text c.args.told.now.guests.now) ((losses_by_level c.args.told.now.by_level) ++ ((losses_text c.args.told.now.losses.now) ++ report_end)) c.from_residual-in_err-put_guests_text.result c.from_residual-in_err-put_guests_text.ensures.0 refl c.in_err-put_guests_text.ensures.bytes))

pub returns-in_err-put_losses_by_level-clause-bytes : goal.returns-in_err-put_losses_by_level-clause-bytes
returns-in_err-put_losses_by_level-clause-bytes g c =
    puts_behind (g.W.Sink.contents c.args.sink.now) (g.W.Sink.contents c.put_report_begin.new.sink) (g.W.Sink.contents c.put_losses_by_level.new.sink) c.args.held.now c.put_report_begin.new.held c.put_losses_by_level.new.held (report_begin c.args.told.now) ((site_text c.args.told.now) ++ ((guests_text c.args.told.now.guests.now) ++ ((losses_by_level c.args.told.now.by_level) ++ ((losses_text c.args.told.now.losses.now) ++ report_end)))) c.from_residual-in_err-put_losses_by_level.result c.in_ok-put_report_begin.ensures.bytes
    (puts_behind (g.W.Sink.contents c.put_report_begin.new.sink) (g.W.Sink.contents c.put_site_text.new.sink) (g.W.Sink.contents c.put_losses_by_level.new.sink) c.put_report_begin.new.held c.put_site_text.new.held c.put_losses_by_level.new.held (site_text c.args.told.now) ((guests_text c.args.told.now.guests.now) ++ ((losses_by_level c.args.told.now.by_level) ++ ((losses_text c.args.told.now.losses.now) ++ report_end))) c.from_residual-in_err-put_losses_by_level.result c.in_ok-put_site_text.ensures.bytes
    (puts_behind (g.W.Sink.contents c.put_site_text.new.sink) (g.W.Sink.contents c.put_guests_text.new.sink) (g.W.Sink.contents c.put_losses_by_level.new.sink) c.put_site_text.new.held c.put_guests_text.new.held c.put_losses_by_level.new.held (guests_text c.args.told.now.guests.now) ((losses_by_level c.args.told.now.by_level) ++ ((losses_text c.args.told.now.losses.now) ++ report_end)) c.from_residual-in_err-put_losses_by_level.result c.in_ok-put_guests_text.ensures.bytes
    (first_failed (g.W.Sink.contents c.put_guests_text.new.sink) (g.W.Sink.contents c.put_losses_by_level.new.sink) c.put_guests_text.new.held c.put_losses_by_level.new.held (losses_by_level c.args.told.now.by_level) (losses_by_level c.args.told.now.by_level) ((losses_text c.args.told.now.losses.now) ++ report_end) c.from_residual-in_err-put_losses_by_level.result c.from_residual-in_err-put_losses_by_level.ensures.0 refl c.in_err-put_losses_by_level.ensures.bytes)))

pub returns-in_err-put_losses_text-clause-bytes : goal.returns-in_err-put_losses_text-clause-bytes
returns-in_err-put_losses_text-clause-bytes g c =
    puts_behind (g.W.Sink.contents c.args.sink.now) (g.W.Sink.contents c.put_report_begin.new.sink) (g.W.Sink.contents c.put_losses_text.new.sink) c.args.held.now c.put_report_begin.new.held c.put_losses_text.new.held (report_begin c.args.told.now) ((site_text c.args.told.now) ++ ((guests_text c.args.told.now.guests.now) ++ ((losses_by_level c.args.told.now.by_level) ++ ((losses_text c.args.told.now.losses.now) ++ report_end)))) c.from_residual-in_err-put_losses_text.result c.in_ok-put_report_begin.ensures.bytes
    (puts_behind (g.W.Sink.contents c.put_report_begin.new.sink) (g.W.Sink.contents c.put_site_text.new.sink) (g.W.Sink.contents c.put_losses_text.new.sink) c.put_report_begin.new.held c.put_site_text.new.held c.put_losses_text.new.held (site_text c.args.told.now) ((guests_text c.args.told.now.guests.now) ++ ((losses_by_level c.args.told.now.by_level) ++ ((losses_text c.args.told.now.losses.now) ++ report_end))) c.from_residual-in_err-put_losses_text.result c.in_ok-put_site_text.ensures.bytes
    (puts_behind (g.W.Sink.contents c.put_site_text.new.sink) (g.W.Sink.contents c.put_guests_text.new.sink) (g.W.Sink.contents c.put_losses_text.new.sink) c.put_site_text.new.held c.put_guests_text.new.held c.put_losses_text.new.held (guests_text c.args.told.now.guests.now) ((losses_by_level c.args.told.now.by_level) ++ ((losses_text c.args.told.now.losses.now) ++ report_end)) c.from_residual-in_err-put_losses_text.result c.in_ok-put_guests_text.ensures.bytes
    (puts_behind (g.W.Sink.contents c.put_guests_text.new.sink) (g.W.Sink.contents c.put_losses_by_level.new.sink) (g.W.Sink.contents c.put_losses_text.new.sink) c.put_guests_text.new.held c.put_losses_by_level.new.held c.put_losses_text.new.held (losses_by_level c.args.told.now.by_level) ((losses_text c.args.told.now.losses.now) ++ report_end) c.from_residual-in_err-put_losses_text.result c.in_ok-put_losses_by_level.ensures.bytes
    (first_failed (g.W.Sink.contents c.put_losses_by_level.new.sink) (g.W.Sink.contents c.put_losses_text.new.sink) c.put_losses_by_level.new.held c.put_losses_text.new.held (losses_text c.args.told.now.losses.now) (losses_text c.args.told.now.losses.now) report_end c.from_residual-in_err-put_losses_text.result c.from_residual-in_err-put_losses_text.ensures.0 refl c.in_err-put_losses_text.ensures.bytes))))

pub returns-clause-bytes : goal.returns-clause-bytes
returns-clause-bytes g c =
    puts_behind (g.W.Sink.contents c.args.sink.now) (g.W.Sink.contents c.put_report_begin.new.sink) (g.W.Sink.contents c.put_report_end.new.sink) c.args.held.now c.put_report_begin.new.held c.put_report_end.new.held (report_begin c.args.told.now) ((site_text c.args.told.now) ++ ((guests_text c.args.told.now.guests.now) ++ ((losses_by_level c.args.told.now.by_level) ++ ((losses_text c.args.told.now.losses.now) ++ report_end)))) c.put_report_end.result c.in_ok-put_report_begin.ensures.bytes
    (puts_behind (g.W.Sink.contents c.put_report_begin.new.sink) (g.W.Sink.contents c.put_site_text.new.sink) (g.W.Sink.contents c.put_report_end.new.sink) c.put_report_begin.new.held c.put_site_text.new.held c.put_report_end.new.held (site_text c.args.told.now) ((guests_text c.args.told.now.guests.now) ++ ((losses_by_level c.args.told.now.by_level) ++ ((losses_text c.args.told.now.losses.now) ++ report_end))) c.put_report_end.result c.in_ok-put_site_text.ensures.bytes
    (puts_behind (g.W.Sink.contents c.put_site_text.new.sink) (g.W.Sink.contents c.put_guests_text.new.sink) (g.W.Sink.contents c.put_report_end.new.sink) c.put_site_text.new.held c.put_guests_text.new.held c.put_report_end.new.held (guests_text c.args.told.now.guests.now) ((losses_by_level c.args.told.now.by_level) ++ ((losses_text c.args.told.now.losses.now) ++ report_end)) c.put_report_end.result c.in_ok-put_guests_text.ensures.bytes
    (puts_behind (g.W.Sink.contents c.put_guests_text.new.sink) (g.W.Sink.contents c.put_losses_by_level.new.sink) (g.W.Sink.contents c.put_report_end.new.sink) c.put_guests_text.new.held c.put_losses_by_level.new.held c.put_report_end.new.held (losses_by_level c.args.told.now.by_level) ((losses_text c.args.told.now.losses.now) ++ report_end) c.put_report_end.result c.in_ok-put_losses_by_level.ensures.bytes
    (puts_behind (g.W.Sink.contents c.put_losses_by_level.new.sink) (g.W.Sink.contents c.put_losses_text.new.sink) (g.W.Sink.contents c.put_report_end.new.sink) c.put_losses_by_level.new.held c.put_losses_text.new.held c.put_report_end.new.held (losses_text c.args.told.now.losses.now) report_end c.put_report_end.result c.in_ok-put_losses_text.ensures.bytes c.put_report_end.ensures.bytes))))
