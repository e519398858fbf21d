use Rattle.esx_reading.proofs.FieldLemmas.{after_one, after_two}
use Rattle.esx_session.proofs.site.levels.Goals as goal

pub returns-in_err-hard-clause-none : goal.returns-in_err-hard-clause-none
returns-in_err-hard-clause-none c = rw c.from_residual-in_err-hard.ensures
    (λ high soft hard low others a b d e is.
    let behind_high = after_two _ _ _ _ _ _ _ c.in_ok-high.ensures.some is in
    c.in_err-hard.ensures.none hard low others d e (after_one _ _ _ _ _ c.in_ok-soft.ensures.some behind_high))
