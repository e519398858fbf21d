use Rattle.std.proofs.Common.{◌∙◌, ap}
use Rattle.esx_model.specs.History.{here}
use Rattle.esx_model.specs.Console.{history}
use Rattle.esx_console.proofs.Branches.{event_line}
use Rattle.esx_console.proofs.laws.event_line_lengthens.Goals as goal

pub returns : goal.returns
returns c = λ s caller event answer told. ap here (event_line s caller event answer told) ∙ c.event_lengthens.ensures event (history s)
