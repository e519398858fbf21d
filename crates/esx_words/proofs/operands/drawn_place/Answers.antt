use Rattle.std.proofs.Common.{[]}
use Rattle.esx_reading.proofs.FieldLemmas.{after_one}
use Rattle.esx_words.proofs.operands.drawn_place.Goals as goal

pub returns-in_err-word-clause-none : goal.returns-in_err-word-clause-none
returns-in_err-word-clause-none c = rw c.from_residual-in_err-word.ensures
    (λ vm n w a b d is.
    let behind_vm = after_one _ _ _ _ _ c.in_ok-vm.ensures.some.1 is in
    c.in_err-word.ensures.none w [] d (after_one _ _ _ _ _ c.in_ok-number.ensures.some behind_vm))
