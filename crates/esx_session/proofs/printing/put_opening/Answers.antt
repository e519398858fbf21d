use Rattle.std.proofs.Common.{◌++◌}
use Rattle.esx_words.proofs.PrintingLemmas.{puts_same}
use Rattle.esx_types.specs.declared.version.Version.TheVariants.{Two}
use Rattle.esx_session.specs.Sessions.{head_text, site_text}
use Rattle.esx_session.proofs.PuttingLemmas.{opening, opening_is}
use Rattle.esx_session.proofs.printing.put_opening.Goals as goal

pub returns-clause-bytes : goal.returns-clause-bytes
returns-clause-bytes g c =
    puts_same (g.W.Sink.contents c.args.sink.now) (g.W.Sink.contents c.put_pieces.new.sink) c.args.held.now c.put_pieces.new.held
    (opening c.args.site.now) (head_text Two ++ site_text c.args.site.now) c.put_pieces.result (opening_is c.args.site.now)
    (rw (c.from.ensures, c.from-2.ensures, c.from-3.ensures, c.from-4.ensures, c.from-5.ensures, c.from-6.ensures, c.from-7.ensures, c.from-8.ensures, c.from-9.ensures)
    at c.put_pieces.ensures.bytes)
