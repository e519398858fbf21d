use Rattle.std.proofs.Common.{◌++◌, refl}
use Rattle.esx_report.specs.Site.{first_level_line, level_line}
use Rattle.esx_writing.proofs.WritingLemmas.{first_failed}
use Rattle.esx_report.proofs.BehindLemmas.{puts_behind}
use Rattle.esx_report.proofs.site_text.put_levels.Goals as goal

pub returns-in_err-put_first_level-clause-bytes : goal.returns-in_err-put_first_level-clause-bytes
returns-in_err-put_first_level-clause-bytes g c =
    first_failed (g.W.Sink.contents c.args.sink.now) (g.W.Sink.contents c.put_first_level.new.sink) c.args.held.now c.put_first_level.new.held (first_level_line c.args.levels.now.high c.args.events) (first_level_line c.args.levels.now.high c.args.events) ((level_line c.args.levels.now.soft c.args.events) ++ ((level_line c.args.levels.now.hard c.args.events) ++ (level_line c.args.levels.now.low c.args.events))) c.from_residual.result c.from_residual.ensures.0 refl c.in_err-put_first_level.ensures.bytes

pub returns-in_err-put_level-clause-bytes : goal.returns-in_err-put_level-clause-bytes
returns-in_err-put_level-clause-bytes g c =
    puts_behind (g.W.Sink.contents c.args.sink.now) (g.W.Sink.contents c.put_first_level.new.sink) (g.W.Sink.contents c.put_level.new.sink) c.args.held.now c.put_first_level.new.held c.put_level.new.held (first_level_line c.args.levels.now.high c.args.events) ((level_line c.args.levels.now.soft c.args.events) ++ ((level_line c.args.levels.now.hard c.args.events) ++ (level_line c.args.levels.now.low c.args.events))) c.from_residual-in_err-put_level.result c.in_ok-put_first_level.ensures.bytes
    (first_failed (g.W.Sink.contents c.put_first_level.new.sink) (g.W.Sink.contents c.put_level.new.sink) c.put_first_level.new.held c.put_level.new.held (level_line c.args.levels.now.soft c.args.events) (level_line c.args.levels.now.soft c.args.events) ((level_line c.args.levels.now.hard c.args.events) ++ (level_line c.args.levels.now.low c.args.events)) c.from_residual-in_err-put_level.result c.from_residual-in_err-put_level.ensures.0 refl c.in_err-put_level.ensures.bytes)

pub returns-in_err-put_level-2-clause-bytes : goal.returns-in_err-put_level-2-clause-bytes
returns-in_err-put_level-2-clause-bytes g c =
    puts_behind (g.W.Sink.contents c.args.sink.now) (g.W.Sink.contents c.put_first_level.new.sink) (g.W.Sink.contents c.put_level-2.new.sink) c.args.held.now c.put_first_level.new.held c.put_level-2.new.held (first_level_line c.args.levels.now.high c.args.events) ((level_line c.args.levels.now.soft c.args.events) ++ ((level_line c.args.levels.now.hard c.args.events) ++ (level_line c.args.levels.now.low c.args.events))) c.from_residual-in_err-put_level-2.result c.in_ok-put_first_level.ensures.bytes
    (puts_behind (g.W.Sink.contents c.put_first_level.new.sink) (g.W.Sink.contents c.put_level.new.sink) (g.W.Sink.contents c.put_level-2.new.sink) c.put_first_level.new.held c.put_level.new.held c.put_level-2.new.held (level_line c.args.levels.now.soft c.args.events) ((level_line c.args.levels.now.hard c.args.events) ++ (level_line c.args.levels.now.low c.args.events)) c.from_residual-in_err-put_level-2.result c.in_ok-put_level.ensures.bytes
    (first_failed (g.W.Sink.contents c.put_level.new.sink) (g.W.Sink.contents c.put_level-2.new.sink) c.put_level.new.held c.put_level-2.new.held (level_line c.args.levels.now.hard c.args.events) (level_line c.args.levels.now.hard c.args.events) (level_line c.args.levels.now.low c.args.events) c.from_residual-in_err-put_level-2.result c.from_residual-in_err-put_level-2.ensures.0 refl c.in_err-put_level-2.ensures.bytes))

pub returns-clause-bytes : goal.returns-clause-bytes
returns-clause-bytes g c =
    puts_behind (g.W.Sink.contents c.args.sink.now) (g.W.Sink.contents c.put_first_level.new.sink) (g.W.Sink.contents c.put_level-3.new.sink) c.args.held.now c.put_first_level.new.held c.put_level-3.new.held (first_level_line c.args.levels.now.high c.args.events) ((level_line c.args.levels.now.soft c.args.events) ++ ((level_line c.args.levels.now.hard c.args.events) ++ (level_line c.args.levels.now.low c.args.events))) c.put_level-3.result c.in_ok-put_first_level.ensures.bytes
    (puts_behind (g.W.Sink.contents c.put_first_level.new.sink) (g.W.Sink.contents c.put_level.new.sink) (g.W.Sink.contents c.put_level-3.new.sink) c.put_first_level.new.held c.put_level.new.held c.put_level-3.new.held (level_line c.args.levels.now.soft c.args.events) ((level_line c.args.levels.now.hard c.args.events) ++ (level_line c.args.levels.now.low c.args.events)) c.put_level-3.result c.in_ok-put_level.ensures.bytes
    (puts_behind (g.W.Sink.contents c.put_level.new.sink) (g.W.Sink.contents c.put_level-2.new.sink) (g.W.Sink.contents c.put_level-3.new.sink) c.put_level.new.held c.put_level-2.new.held c.put_level-3.new.held (level_line c.args.levels.now.hard c.args.events) (level_line c.args.levels.now.low c.args.events) c.put_level-3.result c.in_ok-put_level-2.ensures.bytes c.put_level-3.ensures.bytes))
