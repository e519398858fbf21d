use Rattle.std.proofs.Common.{refl, codes}
use Rattle.esx_replies.specs.Texts.{sum_text}
use Rattle.esx_writing.proofs.WritingLemmas.{first_failed, puts_after, utf8_after}
use Rattle.esx_replies.proofs.sides.put_before.Goals as goal

pub returns-in_err-put_before_word-clause-bytes : goal.returns-in_err-put_before_word-clause-bytes
returns-in_err-put_before_word-clause-bytes g c =
    first_failed (g.W.Sink.contents c.args.sink.now) (g.W.Sink.contents c.put_before_word.new.sink) c.args.held.now c.put_before_word.new.held (codes "before ") (codes "before ") (sum_text c.args.sum)
    c.from_residual.result c.from_residual.ensures.0 refl c.in_err-put_before_word.ensures.bytes

pub returns-clause-bytes : goal.returns-clause-bytes
returns-clause-bytes g c =
    puts_after (g.W.Sink.contents c.args.sink.now) (g.W.Sink.contents c.put_before_word.new.sink) (g.W.Sink.contents c.put_sum.new.sink) c.args.held.now c.put_before_word.new.held c.put_sum.new.held
    (codes "before ") (codes "before ") (sum_text c.args.sum) (sum_text c.args.sum) c.put_sum.result refl refl c.in_ok-put_before_word.ensures.bytes c.put_sum.ensures.bytes

pub returns-clause-utf8 : goal.returns-clause-utf8
returns-clause-utf8 g c = utf8_after (codes "before ") (sum_text c.args.sum) c.put_sum.result c.in_ok-put_before_word.ensures.utf8 c.put_sum.ensures.utf8
