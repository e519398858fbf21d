use Rattle.esx_model.specs.Console.{history, lined}
use Rattle.esx_events.specs.declared.call.Call.TheVariants as calls
use Rattle.esx_console.proofs.Branches.{mark_line, mark_told}
use Rattle.esx_console.proofs.laws.mark_line_names.Goals as goal

pub returns-clause-told : goal.returns-clause-told
returns-clause-told c = λ s name told node e. mark_told s name told node e

pub returns-clause-added : goal.returns-clause-added
returns-clause-added c = λ s caller node name told e. c.names_stay_taken.ensures.added (history s) (history (lined s caller (calls.Mark name))) name (mark_line s caller name told node e)
