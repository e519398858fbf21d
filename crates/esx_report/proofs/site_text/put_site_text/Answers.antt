use Rattle.std.proofs.Common.{◌++◌, refl}
use Rattle.esx_report.specs.Report.{level_lines, site_lines}
use Rattle.esx_report.specs.Site.{site_heading}
use Rattle.esx_writing.proofs.WritingLemmas.{first_failed}
use Rattle.esx_report.proofs.BehindLemmas.{puts_behind}
use Rattle.esx_report.proofs.site_text.put_site_text.Goals as goal

pub returns-in_err-put_site_heading-clause-bytes : goal.returns-in_err-put_site_heading-clause-bytes
returns-in_err-put_site_heading-clause-bytes g c =
    first_failed (g.W.Sink.contents c.args.sink.now) (g.W.Sink.contents c.put_site_heading.new.sink) c.args.held.now c.put_site_heading.new.held site_heading site_heading ((level_lines c.args.told.now.levels c.args.told.now.path.events) ++ (site_lines c.args.told.now.site)) c.from_residual.result c.from_residual.ensures.0 refl c.in_err-put_site_heading.ensures.bytes

pub returns-in_err-put_levels-clause-bytes : goal.returns-in_err-put_levels-clause-bytes
returns-in_err-put_levels-clause-bytes g c =
    puts_behind (g.W.Sink.contents c.args.sink.now) (g.W.Sink.contents c.put_site_heading.new.sink) (g.W.Sink.contents c.put_levels.new.sink) c.args.held.now c.put_site_heading.new.held c.put_levels.new.held site_heading ((level_lines c.args.told.now.levels c.args.told.now.path.events) ++ (site_lines c.args.told.now.site)) c.from_residual-in_err-put_levels.result c.in_ok-put_site_heading.ensures.bytes
    (first_failed (g.W.Sink.contents c.put_site_heading.new.sink) (g.W.Sink.contents c.put_levels.new.sink) c.put_site_heading.new.held c.put_levels.new.held (level_lines c.args.told.now.levels c.args.told.now.path.events) (level_lines c.args.told.now.levels c.args.told.now.path.events) (site_lines c.args.told.now.site) c.from_residual-in_err-put_levels.result c.from_residual-in_err-put_levels.ensures.0 refl c.in_err-put_levels.ensures.bytes)

pub returns-clause-bytes : goal.returns-clause-bytes
returns-clause-bytes g c =
    puts_behind (g.W.Sink.contents c.args.sink.now) (g.W.Sink.contents c.put_site_heading.new.sink) (g.W.Sink.contents c.put_site_lines.new.sink) c.args.held.now c.put_site_heading.new.held c.put_site_lines.new.held site_heading ((level_lines c.args.told.now.levels c.args.told.now.path.events) ++ (site_lines c.args.told.now.site)) c.put_site_lines.result c.in_ok-put_site_heading.ensures.bytes
    (puts_behind (g.W.Sink.contents c.put_site_heading.new.sink) (g.W.Sink.contents c.put_levels.new.sink) (g.W.Sink.contents c.put_site_lines.new.sink) c.put_site_heading.new.held c.put_levels.new.held c.put_site_lines.new.held (level_lines c.args.told.now.levels c.args.told.now.path.events) (site_lines c.args.told.now.site) c.put_site_lines.result c.in_ok-put_levels.ensures.bytes c.put_site_lines.ensures.bytes)
