use Rattle.std.proofs.Common.{sym, ◌∙◌, refl}
use Rattle.esx_scenario.proofs.LineLemmas.{write_is, write_missing, next_none, next_some}
use Rattle.esx_scenario.proofs.line.write_of.Goals as goal

pub returns-in_default : goal.returns-in_default
returns-in_default c = sym (write_missing _ c.in_default.ensures.none)

pub returns-in-Some-2 : goal.returns-in-Some-2
returns-in-Some-2 c =
    let place = c.in-Some.ensures.some in
    sym (write_is _ _ _ _ place.0 place.1 place.2 ∙ next_some _ _ _ _ (sym c.in_ok-bytes.ensures ∙ c.in-Some-2.is) refl)

pub returns-in-None : goal.returns-in-None
returns-in-None c =
    let place = c.in-Some.ensures.some in
    sym (write_is _ _ _ _ place.0 place.1 place.2 ∙ next_none _ _ (sym c.in_ok-bytes.ensures ∙ c.in-None.is))
