use Rattle.std.proofs.Common.{refl}
use Rattle.std.specs.Prelude.{flat_map}
use Rattle.esx_words.specs.Printing.{word_text, sample_head}
use Rattle.esx_writing.proofs.WritingLemmas.{first_failed, puts_after, utf8_after}
use Rattle.esx_words.proofs.printing.put_sample.Goals as goal

pub returns-in_err-put_place-clause-bytes : goal.returns-in_err-put_place-clause-bytes
returns-in_err-put_place-clause-bytes g c =
    first_failed (g.W.Sink.contents c.args.sink.now) (g.W.Sink.contents c.put_place.new.sink) c.args.held.now c.put_place.new.held (sample_head c.args.vm c.args.length) (sample_head c.args.vm c.args.length) (flat_map word_text c.args.words.now)
    c.from_residual.result c.from_residual.ensures.0 refl c.in_err-put_place.ensures.bytes

pub returns-clause-bytes : goal.returns-clause-bytes
returns-clause-bytes g c =
    puts_after (g.W.Sink.contents c.args.sink.now) (g.W.Sink.contents c.put_place.new.sink) (g.W.Sink.contents c.put_sample_words.new.sink) c.args.held.now c.put_place.new.held c.put_sample_words.new.held
    (sample_head c.args.vm c.args.length) (sample_head c.args.vm c.args.length) (flat_map word_text c.args.words.now) (flat_map word_text c.args.words.now) c.put_sample_words.result refl refl c.in_ok-put_place.ensures.bytes c.put_sample_words.ensures.bytes

pub returns-clause-utf8 : goal.returns-clause-utf8
returns-clause-utf8 g c = utf8_after (sample_head c.args.vm c.args.length) (flat_map word_text c.args.words.now) c.put_sample_words.result c.in_ok-put_place.ensures.utf8 c.put_sample_words.ensures.utf8
