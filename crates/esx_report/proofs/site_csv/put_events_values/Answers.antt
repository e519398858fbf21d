use Rattle.std.proofs.Common.{◌++◌, refl}
use Rattle.esx_report.specs.Values.{events_value}
use Rattle.esx_writing.proofs.WritingLemmas.{first_failed}
use Rattle.esx_report.proofs.BehindLemmas.{puts_behind}
use Rattle.esx_report.proofs.site_csv.put_events_values.Goals as goal

pub returns-in_err-put_events_value-clause-bytes : goal.returns-in_err-put_events_value-clause-bytes
returns-in_err-put_events_value-clause-bytes g c =
    first_failed (g.W.Sink.contents c.args.sink.now) (g.W.Sink.contents c.put_events_value.new.sink) c.args.held.now c.put_events_value.new.held (events_value c.args.levels.now.high) (events_value c.args.levels.now.high) ((events_value c.args.levels.now.soft) ++ ((events_value c.args.levels.now.hard) ++ (events_value c.args.levels.now.low))) c.from_residual.result c.from_residual.ensures.0 refl c.in_err-put_events_value.ensures.bytes

pub returns-in_err-put_events_value-2-clause-bytes : goal.returns-in_err-put_events_value-2-clause-bytes
returns-in_err-put_events_value-2-clause-bytes g c =
    puts_behind (g.W.Sink.contents c.args.sink.now) (g.W.Sink.contents c.put_events_value.new.sink) (g.W.Sink.contents c.put_events_value-2.new.sink) c.args.held.now c.put_events_value.new.held c.put_events_value-2.new.held (events_value c.args.levels.now.high) ((events_value c.args.levels.now.soft) ++ ((events_value c.args.levels.now.hard) ++ (events_value c.args.levels.now.low))) c.from_residual-in_err-put_events_value-2.result c.in_ok-put_events_value.ensures.bytes
    (first_failed (g.W.Sink.contents c.put_events_value.new.sink) (g.W.Sink.contents c.put_events_value-2.new.sink) c.put_events_value.new.held c.put_events_value-2.new.held (events_value c.args.levels.now.soft) (events_value c.args.levels.now.soft) ((events_value c.args.levels.now.hard) ++ (events_value c.args.levels.now.low)) c.from_residual-in_err-put_events_value-2.result c.from_residual-in_err-put_events_value-2.ensures.0 refl c.in_err-put_events_value-2.ensures.bytes)

pub returns-in_err-put_events_value-3-clause-bytes : goal.returns-in_err-put_events_value-3-clause-bytes
returns-in_err-put_events_value-3-clause-bytes g c =
    puts_behind (g.W.Sink.contents c.args.sink.now) (g.W.Sink.contents c.put_events_value.new.sink) (g.W.Sink.contents c.put_events_value-3.new.sink) c.args.held.now c.put_events_value.new.held c.put_events_value-3.new.held (events_value c.args.levels.now.high) ((events_value c.args.levels.now.soft) ++ ((events_value c.args.levels.now.hard) ++ (events_value c.args.levels.now.low))) c.from_residual-in_err-put_events_value-3.result c.in_ok-put_events_value.ensures.bytes
    (puts_behind (g.W.Sink.contents c.put_events_value.new.sink) (g.W.Sink.contents c.put_events_value-2.new.sink) (g.W.Sink.contents c.put_events_value-3.new.sink) c.put_events_value.new.held c.put_events_value-2.new.held c.put_events_value-3.new.held (events_value c.args.levels.now.soft) ((events_value c.args.levels.now.hard) ++ (events_value c.args.levels.now.low)) c.from_residual-in_err-put_events_value-3.result c.in_ok-put_events_value-2.ensures.bytes
    (first_failed (g.W.Sink.contents c.put_events_value-2.new.sink) (g.W.Sink.contents c.put_events_value-3.new.sink) c.put_events_value-2.new.held c.put_events_value-3.new.held (events_value c.args.levels.now.hard) (events_value c.args.levels.now.hard) (events_value c.args.levels.now.low) c.from_residual-in_err-put_events_value-3.result c.from_residual-in_err-put_events_value-3.ensures.0 refl c.in_err-put_events_value-3.ensures.bytes))

pub returns-clause-bytes : goal.returns-clause-bytes
returns-clause-bytes g c =
    puts_behind (g.W.Sink.contents c.args.sink.now) (g.W.Sink.contents c.put_events_value.new.sink) (g.W.Sink.contents c.put_events_value-4.new.sink) c.args.held.now c.put_events_value.new.held c.put_events_value-4.new.held (events_value c.args.levels.now.high) ((events_value c.args.levels.now.soft) ++ ((events_value c.args.levels.now.hard) ++ (events_value c.args.levels.now.low))) c.put_events_value-4.result c.in_ok-put_events_value.ensures.bytes
    (puts_behind (g.W.Sink.contents c.put_events_value.new.sink) (g.W.Sink.contents c.put_events_value-2.new.sink) (g.W.Sink.contents c.put_events_value-4.new.sink) c.put_events_value.new.held c.put_events_value-2.new.held c.put_events_value-4.new.held (events_value c.args.levels.now.soft) ((events_value c.args.levels.now.hard) ++ (events_value c.args.levels.now.low)) c.put_events_value-4.result c.in_ok-put_events_value-2.ensures.bytes
    (puts_behind (g.W.Sink.contents c.put_events_value-2.new.sink) (g.W.Sink.contents c.put_events_value-3.new.sink) (g.W.Sink.contents c.put_events_value-4.new.sink) c.put_events_value-2.new.held c.put_events_value-3.new.held c.put_events_value-4.new.held (events_value c.args.levels.now.hard) (events_value c.args.levels.now.low) c.put_events_value-4.result c.in_ok-put_events_value-3.ensures.bytes c.put_events_value-4.ensures.bytes))
