use Rattle.std.proofs.Common.{◌++◌, refl}
use Rattle.std.specs.Prelude.{flat_map}
use Rattle.esx_reading.specs.Fields.{joined}
use Rattle.esx_words.specs.Commands.{event_words}
use Rattle.esx_words.specs.Printing.{next_text, tried_head}
use Rattle.esx_writing.proofs.WritingLemmas.{first_failed, puts_after, utf8_after}
use Rattle.esx_words.proofs.printing.put_tried.Goals as goal

pub returns-in_err-put_tried_word-clause-bytes : goal.returns-in_err-put_tried_word-clause-bytes
returns-in_err-put_tried_word-clause-bytes g c =
    first_failed (g.W.Sink.contents c.args.sink.now) (g.W.Sink.contents c.put_tried_word.new.sink) c.args.held.now c.put_tried_word.new.held tried_head tried_head (joined (event_words c.args.first.now) ++ flat_map next_text c.args.others.now)
    c.from_residual.result c.from_residual.ensures.0 refl c.in_err-put_tried_word.ensures.bytes

pub returns-clause-bytes : goal.returns-clause-bytes
returns-clause-bytes g c =
    puts_after (g.W.Sink.contents c.args.sink.now) (g.W.Sink.contents c.put_tried_word.new.sink) (g.W.Sink.contents c.put_listed.new.sink) c.args.held.now c.put_tried_word.new.held c.put_listed.new.held
    tried_head tried_head (joined (event_words c.args.first.now) ++ flat_map next_text c.args.others.now) (joined (event_words c.args.first.now) ++ flat_map next_text c.args.others.now) c.put_listed.result refl refl c.in_ok-put_tried_word.ensures.bytes c.put_listed.ensures.bytes

pub returns-clause-utf8 : goal.returns-clause-utf8
returns-clause-utf8 g c = utf8_after tried_head (joined (event_words c.args.first.now) ++ flat_map next_text c.args.others.now) c.put_listed.result c.in_ok-put_tried_word.ensures.utf8 c.put_listed.ensures.utf8
