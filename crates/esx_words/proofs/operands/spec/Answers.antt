use Rattle.std.proofs.Common.{◌∷◌, decimal}
use Rattle.esx_reading.proofs.FieldLemmas.{after_one, after_two}
use Rattle.esx_words.specs.Kinds.{perhaps_number}
use Rattle.esx_words.proofs.operands.spec.Goals as goal

pub returns-in_err-overhead-clause-none : goal.returns-in_err-overhead-clause-none
returns-in_err-overhead-clause-none c = rw c.from_residual-in_err-overhead.ensures
    (λ vm min max overhead shares balloon tau a b d e f g h is.
    let behind_vm = after_one _ _ _ _ _ c.in_ok-vm.ensures.some.1 is in
    c.in_err-overhead.ensures.none overhead shares (decimal balloon ∷ perhaps_number tau) e f (after_two _ _ _ _ _ _ _ c.in_ok-min.ensures.some behind_vm))

pub returns-in_err-balloon_max-clause-none : goal.returns-in_err-balloon_max-clause-none
returns-in_err-balloon_max-clause-none c = rw c.from_residual-in_err-balloon_max.ensures
    (λ vm min max overhead shares balloon tau a b d e f g h is.
    let behind_vm = after_one _ _ _ _ _ c.in_ok-vm.ensures.some.1 is in
    let behind_max = after_two _ _ _ _ _ _ _ c.in_ok-min.ensures.some behind_vm in
    c.in_err-balloon_max.ensures.none balloon (perhaps_number tau) g (after_two _ _ _ _ _ _ _ c.in_ok-overhead.ensures.some behind_max))

pub returns-in_err-tau-clause-none : goal.returns-in_err-tau-clause-none
returns-in_err-tau-clause-none c = rw c.from_residual-in_err-tau.ensures
    (λ vm min max overhead shares balloon tau a b d e f g h is.
    let behind_vm = after_one _ _ _ _ _ c.in_ok-vm.ensures.some.1 is in
    let behind_max = after_two _ _ _ _ _ _ _ c.in_ok-min.ensures.some behind_vm in
    let behind_shares = after_two _ _ _ _ _ _ _ c.in_ok-overhead.ensures.some behind_max in
    c.in_err-tau.ensures.none tau h (after_one _ _ _ _ _ c.in_ok-balloon_max.ensures.some behind_shares))

pub returns-in_err-min-clause-none : goal.returns-in_err-min-clause-none
returns-in_err-min-clause-none c = rw c.from_residual-in_err-min.ensures
    (λ vm min max overhead shares balloon tau a b d e f g h is.
    c.in_err-min.ensures.none min max (decimal overhead ∷ decimal shares ∷ decimal balloon ∷ perhaps_number tau) b d (after_one _ _ _ _ _ c.in_ok-vm.ensures.some.1 is))
