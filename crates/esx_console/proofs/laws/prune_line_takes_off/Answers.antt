use Rattle.esx_model.specs.Console.{history, lined}
use Rattle.esx_events.specs.declared.call.Call.TheVariants as calls
use Rattle.esx_console.proofs.Branches.{prune_line}
use Rattle.esx_console.proofs.laws.prune_line_takes_off.Goals as goal

pub returns : goal.returns
returns c = λ s caller node count e. c.prune_takes_off.ensures.rest (history s) (history (lined s caller (calls.Prune node))) node count (prune_line s caller node count e)
