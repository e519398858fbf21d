use Rattle.std.proofs.Common.{flat_map, refl}
use Rattle.esx_report.specs.Steps.{step_head, step_row}
use Rattle.esx_writing.proofs.WritingLemmas.{first_failed}
use Rattle.esx_report.proofs.BehindLemmas.{puts_behind}
use Rattle.esx_report.proofs.steps.put_steps.Goals as goal

pub returns-in_err-put_step_head-clause-bytes : goal.returns-in_err-put_step_head-clause-bytes
returns-in_err-put_step_head-clause-bytes g c =
    first_failed (g.W.Sink.contents c.args.sink.now) (g.W.Sink.contents c.put_step_head.new.sink) c.args.held.now c.put_step_head.new.held step_head step_head (flat_map step_row c.args.rows.now) c.from_residual.result c.from_residual.ensures.0 refl c.in_err-put_step_head.ensures.bytes

pub returns-clause-bytes : goal.returns-clause-bytes
returns-clause-bytes g c =
    puts_behind (g.W.Sink.contents c.args.sink.now) (g.W.Sink.contents c.put_step_head.new.sink) (g.W.Sink.contents c.put_step_rows.new.sink) c.args.held.now c.put_step_head.new.held c.put_step_rows.new.held step_head (flat_map step_row c.args.rows.now) c.put_step_rows.result c.in_ok-put_step_head.ensures.bytes c.put_step_rows.ensures.bytes
