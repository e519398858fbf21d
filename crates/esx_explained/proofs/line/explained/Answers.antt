use Rattle.std.proofs.Common.{List, ℕ, subst}
use Rattle.std.specs.Result.{IfOk}
use Rattle.std.specs.Option.{IfSome}
use Rattle.esx_explained.specs.Known.{IsKnown}
use Rattle.esx_explained.specs.Reasons.{Explains}
use Rattle.esx_explained.proofs.LineLemmas.{known_is_utf8}
use Rattle.esx_explained.proofs.line.explained.Goals as goal

pub returns-in-Ok-clause-told : goal.returns-in-Ok-clause-told
returns-in-Ok-clause-told c =
    subst (λ (line : List ℕ). IfOk c.explained_text.result (λ found. IfSome found (λ e. (IsKnown line → ⊥) × Explains line e))) c.in-Ok.ensures.cases.0 c.explained_text.ensures.told

pub returns-in-Err-clause-told : goal.returns-in-Err-clause-told
returns-in-Err-clause-told c =
    (λ known. c.in-Err.ensures.cases.0 (known_is_utf8 c.args.line.now (λ s. (let t = c.if-is_silent.ensures.1 s in cc)) known), c.no_text.ensures)
