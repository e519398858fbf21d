use Rattle.std.proofs.Common.{ap, ◌∙◌}
use Rattle.esx_story.specs.Readings.{is_told_here}
use Rattle.esx_pageout.proofs.Told.{told_here}
use Rattle.esx_pageout.proofs.word.is_here.Goals as goal

pub returns : goal.returns
returns c = λ scene v shows there. c.is_told_here.ensures ∙ ap is_told_here c.of_page.ensures ∙ told_here c.args.machine.now scene c.args.vm c.args.page v shows there
