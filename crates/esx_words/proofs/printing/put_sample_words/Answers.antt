use Rattle.std.proofs.Common.{flat_map, arith, ◌∙◌}
use Rattle.esx_words.specs.Printing.{word_text}
use Rattle.esx_writing.proofs.WritingLemmas.{passes_more, passes_same, passes_stop, puts_error, flat_parts_at, flat_parts_more, utf8_more}
use Rattle.esx_words.proofs.printing.put_sample_words.Goals as goal

pub returns-in_err-put_word-clause-bytes : goal.returns-in_err-put_word-clause-bytes
returns-in_err-put_word-clause-bytes g c =
    puts_error (g.W.Sink.contents c.args.sink.now) (g.W.Sink.contents c.put_word.new.sink) c.args.held.now c.put_word.new.held
    (flat_map word_text c.args.words.now) c.from_residual.result c.from_residual.ensures.0
    (passes_stop _ _ _ c.args.held.now c.loop-word.held _ _ _ _
    (flat_parts_at word_text c.args.words.now c.loop-word.word-index _ c.loop-word-test.true) c.loop-word.invariant.passed
    c.in_err-put_word.ensures.bytes)

pub loop-word-preserved : goal.loop-word-preserved
loop-word-preserved g c = record {
  passed = passes_same _ _ c.args.held.now c.put_word.new.held _ _ (flat_parts_more word_text c.args.words.now c.loop-word.word-index _ c.loop-word-test.true)
      (passes_more _ _ _ c.args.held.now c.loop-word.held _ _ _ c.loop-word.invariant.passed c.in_ok-put_word.ensures.bytes);
  utf8 = utf8_more _ _ _ (flat_parts_more word_text c.args.words.now c.loop-word.word-index _ c.loop-word-test.true) c.loop-word.invariant.utf8 c.in_ok-put_word.ensures.utf8;
  failures = omega (arith, c.in_ok-put_word.ensures.failures, c.loop-word.invariant.failures);
  flushes = c.put_word.ensures.flushes ∙ c.loop-word.invariant.flushes;
}
