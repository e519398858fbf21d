use Rattle.std.proofs.Common.{◌++◌, refl}
use Rattle.esx_report.specs.Site.{opened_line, path_line, report_head}
use Rattle.esx_writing.proofs.WritingLemmas.{first_failed}
use Rattle.esx_report.proofs.BehindLemmas.{puts_behind}
use Rattle.esx_report.proofs.site_text.put_report_begin.Goals as goal

pub returns-in_err-put_report_head-clause-bytes : goal.returns-in_err-put_report_head-clause-bytes
returns-in_err-put_report_head-clause-bytes g c =
    first_failed (g.W.Sink.contents c.args.sink.now) (g.W.Sink.contents c.put_report_head.new.sink) c.args.held.now c.put_report_head.new.held report_head report_head ((opened_line c.args.told.now.opened) ++ (path_line c.args.told.now.path)) c.from_residual.result c.from_residual.ensures.0 refl c.in_err-put_report_head.ensures.bytes

pub returns-in_err-put_opened-clause-bytes : goal.returns-in_err-put_opened-clause-bytes
returns-in_err-put_opened-clause-bytes g c =
    puts_behind (g.W.Sink.contents c.args.sink.now) (g.W.Sink.contents c.put_report_head.new.sink) (g.W.Sink.contents c.put_opened.new.sink) c.args.held.now c.put_report_head.new.held c.put_opened.new.held report_head ((opened_line c.args.told.now.opened) ++ (path_line c.args.told.now.path)) c.from_residual-in_err-put_opened.result c.in_ok-put_report_head.ensures.bytes
    (first_failed (g.W.Sink.contents c.put_report_head.new.sink) (g.W.Sink.contents c.put_opened.new.sink) c.put_report_head.new.held c.put_opened.new.held (opened_line c.args.told.now.opened) (opened_line c.args.told.now.opened) (path_line c.args.told.now.path) c.from_residual-in_err-put_opened.result c.from_residual-in_err-put_opened.ensures.0 refl c.in_err-put_opened.ensures.bytes)

pub returns-clause-bytes : goal.returns-clause-bytes
returns-clause-bytes g c =
    puts_behind (g.W.Sink.contents c.args.sink.now) (g.W.Sink.contents c.put_report_head.new.sink) (g.W.Sink.contents c.put_path.new.sink) c.args.held.now c.put_report_head.new.held c.put_path.new.held report_head ((opened_line c.args.told.now.opened) ++ (path_line c.args.told.now.path)) c.put_path.result c.in_ok-put_report_head.ensures.bytes
    (puts_behind (g.W.Sink.contents c.put_report_head.new.sink) (g.W.Sink.contents c.put_opened.new.sink) (g.W.Sink.contents c.put_path.new.sink) c.put_report_head.new.held c.put_opened.new.held c.put_path.new.held (opened_line c.args.told.now.opened) (path_line c.args.told.now.path) c.put_path.result c.in_ok-put_opened.ensures.bytes c.put_path.ensures.bytes)
