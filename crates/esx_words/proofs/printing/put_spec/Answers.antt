use Rattle.std.proofs.Common.{refl}
use Rattle.esx_words.specs.Printing.{perhaps_text, spec_head}
use Rattle.esx_words.proofs.PrintingLemmas.{puts_same, utf8_same, spec_is}
use Rattle.esx_writing.proofs.WritingLemmas.{first_failed, puts_after, utf8_after}
use Rattle.esx_words.proofs.printing.put_spec.Goals as goal

pub returns-in_err-put_spec_head-clause-bytes : goal.returns-in_err-put_spec_head-clause-bytes
returns-in_err-put_spec_head-clause-bytes g c =
    let head = spec_head c.args.verb.now c.args.vm c.args.spec in
    puts_same _ _ _ _ _ _ _ (spec_is c.args.verb.now c.args.vm c.args.spec)
    (first_failed (g.W.Sink.contents c.args.sink.now) (g.W.Sink.contents c.put_spec_head.new.sink) c.args.held.now c.put_spec_head.new.held head head (perhaps_text c.args.spec.tau)
    c.from_residual.result c.from_residual.ensures.0 refl c.in_err-put_spec_head.ensures.bytes)

pub returns-clause-bytes : goal.returns-clause-bytes
returns-clause-bytes g c =
    let head = spec_head c.args.verb.now c.args.vm c.args.spec in
    let tail = perhaps_text c.args.spec.tau in
    puts_same _ _ _ _ _ _ _ (spec_is c.args.verb.now c.args.vm c.args.spec)
    (puts_after (g.W.Sink.contents c.args.sink.now) (g.W.Sink.contents c.put_spec_head.new.sink) (g.W.Sink.contents c.put_perhaps_number.new.sink) c.args.held.now c.put_spec_head.new.held c.put_perhaps_number.new.held
    head head tail tail c.put_perhaps_number.result refl refl c.in_ok-put_spec_head.ensures.bytes c.put_perhaps_number.ensures.bytes)

pub returns-clause-utf8 : goal.returns-clause-utf8
returns-clause-utf8 g c = utf8_same _ _ _ (spec_is c.args.verb.now c.args.vm c.args.spec)
    (utf8_after (spec_head c.args.verb.now c.args.vm c.args.spec) (perhaps_text c.args.spec.tau) c.put_perhaps_number.result c.in_ok-put_spec_head.ensures.utf8 c.put_perhaps_number.ensures.utf8)
