use Rattle.std.proofs.Common.{flat_map, arith, ◌∙◌}
use Rattle.esx_writing.specs.Writing.{piece_text}
use Rattle.esx_writing.proofs.WritingLemmas.{passes_more, passes_same, passes_stop, puts_error, flat_parts_at, flat_parts_more, utf8_more}
use Rattle.esx_writing.proofs.pieces.put_pieces.Goals as goal

pub returns-in_err-put_piece-clause-bytes : goal.returns-in_err-put_piece-clause-bytes
returns-in_err-put_piece-clause-bytes g c =
    puts_error (g.W.Sink.contents c.args.sink.now) (g.W.Sink.contents c.put_piece.new.sink) c.args.held.now c.put_piece.new.held
    (flat_map piece_text c.args.pieces.now) c.from_residual.result c.from_residual.ensures.0
    (passes_stop _ _ _ c.args.held.now c.loop-piece.held _ _ _ _
    (flat_parts_at piece_text c.args.pieces.now c.loop-piece.piece-index _ c.loop-piece-test.true) c.loop-piece.invariant.passed
    c.in_err-put_piece.ensures.bytes)

pub loop-piece-preserved : goal.loop-piece-preserved
loop-piece-preserved g c = record {
  passed = passes_same _ _ c.args.held.now c.put_piece.new.held _ _ (flat_parts_more piece_text c.args.pieces.now c.loop-piece.piece-index _ c.loop-piece-test.true)
      (passes_more _ _ _ c.args.held.now c.loop-piece.held _ _ _ c.loop-piece.invariant.passed c.in_ok-put_piece.ensures.bytes);
  utf8 = utf8_more _ _ _ (flat_parts_more piece_text c.args.pieces.now c.loop-piece.piece-index _ c.loop-piece-test.true) c.loop-piece.invariant.utf8 c.in_ok-put_piece.ensures.utf8;
  failures = omega (arith, c.in_ok-put_piece.ensures.failures, c.loop-piece.invariant.failures);
  flushes = c.put_piece.ensures.flushes ∙ c.loop-piece.invariant.flushes;
}
