use Rattle.std.proofs.Common.{[], ◌∷◌}
use Rattle.esx_reading.proofs.FieldLemmas.{after_one}
use Rattle.esx_words.proofs.operands.digits.Goals as goal

pub returns-in_err-first-clause-none : goal.returns-in_err-first-clause-none
returns-in_err-first-clause-none c = rw c.from_residual-in_err-first.ensures
    (λ vm n m text a b d is.
    c.in_err-first.ensures.none n m (text ∷ []) b d (after_one _ _ _ _ _ c.in_ok-vm.ensures.some.1 is))
