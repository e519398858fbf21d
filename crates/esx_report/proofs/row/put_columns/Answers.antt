use Rattle.std.proofs.Common.{◌++◌, ◌∷◌, [], flat_map, refl}
use Rattle.esx_writing.proofs.WritingLemmas.{first_failed, puts_after}
use Rattle.esx_report.proofs.row.put_columns.Goals as goal

pub returns-in_err-put-clause-bytes : goal.returns-in_err-put-clause-bytes
returns-in_err-put-clause-bytes g c =
    first_failed (g.W.Sink.contents c.args.sink.now) (g.W.Sink.contents c.put.new.sink) c.args.held.now c.put.new.held
    (g.C.Column.text c.args.first.now) (g.C.Column.text c.args.first.now) ((flat_map (λ y. g.C.Column.separator ++ g.C.Column.text y) c.args.more.now) ++ 10 ∷ []) c.from_residual.result c.from_residual.ensures.0 refl c.in_err-put.ensures.bytes

pub returns-clause-bytes : goal.returns-clause-bytes
returns-clause-bytes g c =
    puts_after (g.W.Sink.contents c.args.sink.now) (g.W.Sink.contents c.put.new.sink) (g.W.Sink.contents c.put_rest.new.sink) c.args.held.now c.put.new.held c.put_rest.new.held
    (g.C.Column.text c.args.first.now) (g.C.Column.text c.args.first.now) ((flat_map (λ y. g.C.Column.separator ++ g.C.Column.text y) c.args.more.now) ++ 10 ∷ []) ((flat_map (λ y. g.C.Column.separator ++ g.C.Column.text y) c.args.more.now) ++ 10 ∷ []) c.put_rest.result refl refl c.in_ok-put.ensures.bytes c.put_rest.ensures.bytes
