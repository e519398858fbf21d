use Rattle.std.proofs.Common.{◌++◌, refl, length, map, flat_map}
use Rattle.esx_types.specs.declared.version.Version.TheVariants.{Two}
use Rattle.esx_session.specs.Sessions.{head_text, site_text, end_text, session_text, logged}
use Rattle.esx_session.specs.Printing.{line_text}
use Rattle.esx_session.proofs.PuttingLemmas.{session_is}
use Rattle.esx_words.proofs.PrintingLemmas.{puts_same}
use Rattle.esx_writing.proofs.WritingLemmas.{first_failed, puts_after}
use Rattle.esx_told.specs.Lines.{lines_of}
use Rattle.esx_told.proofs.tells.told.put_told.Goals as goal

pub returns-in_err-put_opening-clause-bytes : goal.returns-in_err-put_opening-clause-bytes
returns-in_err-put_opening-clause-bytes g c =
    let lines = lines_of c.args.log.now in
    let opening = head_text Two ++ site_text c.args.site.now in
    let calls = flat_map line_text lines ++ end_text (length lines) in
    puts_same (g.W.Sink.contents c.args.sink.now) (g.W.Sink.contents c.put_opening.new.sink) c.args.held.now c.put_opening.new.held (opening ++ calls) (session_text c.args.site.now (map logged lines)) c.from_residual.result (session_is c.args.site.now lines)
    (first_failed (g.W.Sink.contents c.args.sink.now) (g.W.Sink.contents c.put_opening.new.sink) c.args.held.now c.put_opening.new.held opening opening calls
    c.from_residual.result c.from_residual.ensures.0 refl c.in_err-put_opening.ensures.bytes)

pub returns-clause-bytes : goal.returns-clause-bytes
returns-clause-bytes g c =
    let lines = lines_of c.args.log.now in
    let opening = head_text Two ++ site_text c.args.site.now in
    let calls = flat_map line_text lines ++ end_text (length lines) in
    puts_same (g.W.Sink.contents c.args.sink.now) (g.W.Sink.contents c.put_calls.new.sink) c.args.held.now c.put_calls.new.held (opening ++ calls) (session_text c.args.site.now (map logged lines)) c.put_calls.result (session_is c.args.site.now lines)
    (puts_after (g.W.Sink.contents c.args.sink.now) (g.W.Sink.contents c.put_opening.new.sink) (g.W.Sink.contents c.put_calls.new.sink) c.args.held.now c.put_opening.new.held c.put_calls.new.held
    opening opening calls calls c.put_calls.result refl refl c.in_ok-put_opening.ensures.bytes c.put_calls.ensures.bytes)
