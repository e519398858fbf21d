use Rattle.std.proofs.Common.{◌++◌, ap, sym, flat_map}
use Rattle.std.proofs.lemmas.Grind.{flat_map-append}
use Rattle.esx_session.specs.Printing.{line_text}
use Rattle.esx_words.proofs.PrintingLemmas.{puts_same}
use Rattle.esx_writing.proofs.WritingLemmas.{first_failed, puts_after}
use Rattle.esx_told.specs.Told.{pending}
use Rattle.esx_told.specs.Lines.{lines_of}
use Rattle.esx_told.proofs.tells.told.put_lines.Goals as goal

pub returns-in_err-put-clause-bytes : goal.returns-in_err-put-clause-bytes
returns-in_err-put-clause-bytes g c =
    let told = flat_map line_text c.args.log.now.listed.value in
    let rest = flat_map line_text (pending c.args.log.now.latest) in
    puts_same (g.W.Sink.contents c.args.sink.now) (g.W.Sink.contents c.put.new.sink) c.args.held.now c.put.new.held
    (told ++ rest) (flat_map line_text (lines_of c.args.log.now)) c.from_residual.result
    (sym (flat_map-append line_text c.args.log.now.listed.value (pending c.args.log.now.latest)))
    (first_failed (g.W.Sink.contents c.args.sink.now) (g.W.Sink.contents c.put.new.sink) c.args.held.now c.put.new.held c.text.result.now told rest
    c.from_residual.result c.from_residual.ensures.0 c.text.ensures c.in_err-put.ensures.bytes)

pub returns-clause-bytes : goal.returns-clause-bytes
returns-clause-bytes g c =
    let told = flat_map line_text c.args.log.now.listed.value in
    let rest = flat_map line_text (pending c.args.log.now.latest) in
    puts_same (g.W.Sink.contents c.args.sink.now) (g.W.Sink.contents c.put_pending.new.sink) c.args.held.now c.put_pending.new.held
    (told ++ rest) (flat_map line_text (lines_of c.args.log.now)) c.put_pending.result
    (sym (flat_map-append line_text c.args.log.now.listed.value (pending c.args.log.now.latest)))
    (puts_after (g.W.Sink.contents c.args.sink.now) (g.W.Sink.contents c.put.new.sink) (g.W.Sink.contents c.put_pending.new.sink) c.args.held.now c.put.new.held c.put_pending.new.held
    c.text.result.now told (flat_map line_text (pending c.latest.result.now)) rest c.put_pending.result
    c.text.ensures (ap (λ l. flat_map line_text (pending l)) c.latest.ensures.value) c.in_ok-put.ensures.bytes c.put_pending.ensures.bytes)
