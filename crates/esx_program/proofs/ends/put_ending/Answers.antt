use Rattle.std.proofs.Common.{refl}
use Rattle.std.specs.Prelude.{◌++◌, codes}
use Rattle.esx_writing.proofs.WritingLemmas.{first_failed, puts_after}
use Rattle.esx_program.specs.Ends.{how_text, name_text}
use Rattle.esx_program.proofs.ends.put_ending.Goals as goal

pub returns-in_err-put_name-clause-bytes : goal.returns-in_err-put_name-clause-bytes
returns-in_err-put_name-clause-bytes g c =
    first_failed (g.W.Sink.contents c.args.sink.now) (g.W.Sink.contents c.put_name.new.sink) c.args.held.now c.put_name.new.held (name_text c.args.ending.now.name) (name_text c.args.ending.now.name) (codes " " ++ (how_text c.args.ending.now.how ++ codes "\n"))
    c.from_residual.result c.from_residual.ensures.0 refl c.in_err-put_name.ensures.bytes

pub returns-clause-bytes : goal.returns-clause-bytes
returns-clause-bytes g c =
    puts_after (g.W.Sink.contents c.args.sink.now) (g.W.Sink.contents c.put_name.new.sink) (g.W.Sink.contents c.put_how.new.sink) c.args.held.now c.put_name.new.held c.put_how.new.held
    (name_text c.args.ending.now.name) (name_text c.args.ending.now.name) (codes " " ++ (how_text c.args.ending.now.how ++ codes "\n")) (codes " " ++ (how_text c.args.ending.now.how ++ codes "\n")) c.put_how.result refl refl c.in_ok-put_name.ensures.bytes c.put_how.ensures.bytes
