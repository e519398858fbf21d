use Rattle.std.proofs.Common.{List, ℕ, subst}
use Rattle.esx_explained.specs.Known.{IsKnown}
use Rattle.esx_explained.specs.Reasons.{Explains}
use Rattle.esx_explained.proofs.source.Lines.told.Goals as goal

pub returns-in-Some-clause-unknown : goal.returns-in-Some-clause-unknown
returns-in-Some-clause-unknown c = (let told = rw c.in-Some.is at c.in-Ok.ensures.told in subst (λ (l : List ℕ). IsKnown l → ⊥) c.line.ensures told.0)

pub returns-in-Some-clause-explains : goal.returns-in-Some-clause-explains
returns-in-Some-clause-explains c = (let told = rw c.in-Some.is at c.in-Ok.ensures.told in subst (λ (l : List ℕ). Explains l c.in-Some.explanation) c.line.ensures told.1)
