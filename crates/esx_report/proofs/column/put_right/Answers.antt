use Rattle.std.proofs.Common.{◌∙◌, ap, ◌-◌, ◌∷◌, [], length, replicate, refl}
use Rattle.esx_writing.proofs.WritingLemmas.{first_failed, puts_after}
use Rattle.esx_report.specs.Fields.{field_text}
use Rattle.esx_report.proofs.column.put_right.Goals as goal

pub returns-in_err-put-clause-bytes : goal.returns-in_err-put-clause-bytes
returns-in_err-put-clause-bytes g c =
    first_failed (g.W.Sink.contents c.args.sink.now) (g.W.Sink.contents c.put.new.sink) c.args.held.now c.put.new.held
    c.blanks.result.now (replicate (c.args.width - length (field_text (45 ∷ []) c.args.field)) 32) (field_text (45 ∷ []) c.args.field) c.from_residual.result c.from_residual.ensures.0 (c.blanks.ensures ∙ ap (λ n. replicate n 32) c.lacking.ensures) c.in_err-put.ensures.bytes

pub returns-clause-bytes : goal.returns-clause-bytes
returns-clause-bytes g c =
    puts_after (g.W.Sink.contents c.args.sink.now) (g.W.Sink.contents c.put.new.sink) (g.W.Sink.contents c.put_field.new.sink) c.args.held.now c.put.new.held c.put_field.new.held
    c.blanks.result.now (replicate (c.args.width - length (field_text (45 ∷ []) c.args.field)) 32) (field_text (45 ∷ []) c.args.field) (field_text (45 ∷ []) c.args.field) c.put_field.result (c.blanks.ensures ∙ ap (λ n. replicate n 32) c.lacking.ensures) refl c.in_ok-put.ensures.bytes c.put_field.ensures.bytes
