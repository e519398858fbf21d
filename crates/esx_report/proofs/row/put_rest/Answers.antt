use Rattle.std.proofs.Common.{◌++◌, ◌∷◌, [], flat_map, refl}
use Rattle.esx_writing.proofs.WritingLemmas.{first_failed, puts_after}
use Rattle.esx_report.proofs.row.put_rest.Goals as goal

pub returns-in_err-put_more-clause-bytes : goal.returns-in_err-put_more-clause-bytes
returns-in_err-put_more-clause-bytes g c =
    first_failed (g.W.Sink.contents c.args.sink.now) (g.W.Sink.contents c.put_more.new.sink) c.args.held.now c.put_more.new.held
    (flat_map (λ y. g.C.Column.separator ++ g.C.Column.text y) c.args.columns.now) (flat_map (λ y. g.C.Column.separator ++ g.C.Column.text y) c.args.columns.now) (10 ∷ []) c.from_residual.result c.from_residual.ensures.0 refl c.in_err-put_more.ensures.bytes

pub returns-clause-bytes : goal.returns-clause-bytes
returns-clause-bytes g c =
    puts_after (g.W.Sink.contents c.args.sink.now) (g.W.Sink.contents c.put_more.new.sink) (g.W.Sink.contents c.put.new.sink) c.args.held.now c.put_more.new.held c.put.new.held
    (flat_map (λ y. g.C.Column.separator ++ g.C.Column.text y) c.args.columns.now) (flat_map (λ y. g.C.Column.separator ++ g.C.Column.text y) c.args.columns.now) (10 ∷ []) (10 ∷ []) c.put.result refl refl c.in_ok-put_more.ensures.bytes c.put.ensures.bytes
