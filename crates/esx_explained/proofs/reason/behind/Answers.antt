use Rattle.std.proofs.Common.{sym, subst}
use Rattle.esx_explained.specs.declared.command.Command.{Command}
use Rattle.esx_explained.specs.Reasons.{IsSaidOf}
use Rattle.esx_explained.proofs.reason.behind.Goals as goal

pub returns-in-WhatIf : goal.returns-in-WhatIf
returns-in-WhatIf c = subst (λ (x : Command). IsSaidOf x c.args.fields.now c.amiss_tried.result) (sym c.in-WhatIf.is) c.amiss_tried.ensures
