use Rattle.std.proofs.Common.{◌++◌, refl, length, map}
use Rattle.std.specs.Prelude.{flat_map}
use Rattle.esx_types.specs.declared.version.Version.TheVariants.{Two}
use Rattle.esx_session.specs.Sessions.{head_text, site_text, end_text, session_text, logged}
use Rattle.esx_session.specs.Printing.{line_text}
use Rattle.esx_session.proofs.PuttingLemmas.{session_is}
use Rattle.esx_words.proofs.PrintingLemmas.{puts_same, utf8_same}
use Rattle.esx_writing.proofs.WritingLemmas.{first_failed, puts_after, utf8_after}
use Rattle.esx_session.proofs.printing.put_session.Goals as goal

pub returns-in_err-put_opening-clause-bytes : goal.returns-in_err-put_opening-clause-bytes
returns-in_err-put_opening-clause-bytes g c =
    puts_same (g.W.Sink.contents c.args.sink.now) (g.W.Sink.contents c.put_opening.new.sink) c.args.held.now c.put_opening.new.held ((head_text Two ++ site_text c.args.site.now) ++ (flat_map line_text c.args.log.now ++ end_text (length c.args.log.now))) (session_text c.args.site.now (map logged c.args.log.now)) c.from_residual.result (session_is c.args.site.now c.args.log.now)
    (first_failed (g.W.Sink.contents c.args.sink.now) (g.W.Sink.contents c.put_opening.new.sink) c.args.held.now c.put_opening.new.held (head_text Two ++ site_text c.args.site.now) (head_text Two ++ site_text c.args.site.now) (flat_map line_text c.args.log.now ++ end_text (length c.args.log.now))
    c.from_residual.result c.from_residual.ensures.0 refl c.in_err-put_opening.ensures.bytes)

pub returns-clause-bytes : goal.returns-clause-bytes
returns-clause-bytes g c =
    puts_same (g.W.Sink.contents c.args.sink.now) (g.W.Sink.contents c.put_calls.new.sink) c.args.held.now c.put_calls.new.held ((head_text Two ++ site_text c.args.site.now) ++ (flat_map line_text c.args.log.now ++ end_text (length c.args.log.now))) (session_text c.args.site.now (map logged c.args.log.now)) c.put_calls.result (session_is c.args.site.now c.args.log.now)
    (puts_after (g.W.Sink.contents c.args.sink.now) (g.W.Sink.contents c.put_opening.new.sink) (g.W.Sink.contents c.put_calls.new.sink) c.args.held.now c.put_opening.new.held c.put_calls.new.held
    (head_text Two ++ site_text c.args.site.now) (head_text Two ++ site_text c.args.site.now) (flat_map line_text c.args.log.now ++ end_text (length c.args.log.now)) (flat_map line_text c.args.log.now ++ end_text (length c.args.log.now)) c.put_calls.result refl refl c.in_ok-put_opening.ensures.bytes c.put_calls.ensures.bytes)

pub returns-clause-utf8 : goal.returns-clause-utf8
returns-clause-utf8 g c = utf8_same ((head_text Two ++ site_text c.args.site.now) ++ (flat_map line_text c.args.log.now ++ end_text (length c.args.log.now))) (session_text c.args.site.now (map logged c.args.log.now)) c.put_calls.result (session_is c.args.site.now c.args.log.now) (utf8_after (head_text Two ++ site_text c.args.site.now) (flat_map line_text c.args.log.now ++ end_text (length c.args.log.now)) c.put_calls.result c.in_ok-put_opening.ensures.utf8 c.put_calls.ensures.utf8)
