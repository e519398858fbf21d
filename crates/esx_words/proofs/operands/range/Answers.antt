use Rattle.std.proofs.Common.{[], ◌∷◌, decimal}
use Rattle.esx_reading.proofs.FieldLemmas.{after_one, after_two}
use Rattle.esx_words.proofs.operands.range.Goals as goal

pub returns-in_err-first-clause-none : goal.returns-in_err-first-clause-none
returns-in_err-first-clause-none c = rw c.from_residual-in_err-first.ensures
    (λ vm n m k a b d e is. c.in_err-first.ensures.none n m (decimal k ∷ []) b d (after_one _ _ _ _ _ c.in_ok-vm.ensures.some.1 is))

pub returns-in_err-third-clause-none : goal.returns-in_err-third-clause-none
returns-in_err-third-clause-none c = rw c.from_residual-in_err-third.ensures
    (λ vm n m k a b d e is.
    let behind_vm = after_one _ _ _ _ _ c.in_ok-vm.ensures.some.1 is in
    c.in_err-third.ensures.none k [] e (after_two _ _ _ _ _ _ _ c.in_ok-first.ensures.some behind_vm))
