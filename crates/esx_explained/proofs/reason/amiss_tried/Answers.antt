use Rattle.std.proofs.Common.{List, ℕ, sym, subst}
use Rattle.esx_explained.specs.declared.command.Command.TheVariants.{WhatIf}
use Rattle.esx_explained.specs.Reasons.{IsSaidOf}
use Rattle.esx_explained.proofs.reason.amiss_tried.Goals as goal

pub returns-in-Some : goal.returns-in-Some
returns-in-Some c = subst (λ (words : List (List ℕ)). IsSaidOf WhatIf words c.amiss_events.result) (sym c.in-Some.ensures) c.amiss_events.ensures
