use Rattle.std.proofs.Common.{sym, ◌∙◌, arith}
use Rattle.std.proofs.lemmas.Fmt.{decimal_injective}
use Rattle.esx_scenario.proofs.LineLemmas.{number_missing, number_found}
use Rattle.esx_program.proofs.words.number_named.Goals as goal

pub returns-in_err-number : goal.returns-in_err-number
returns-in_err-number c = rw c.from_residual.ensures (sym (number_missing _ (λ n small e. c.in_err-number.ensures.none n (omega (arith, small)) e)))

pub returns-then-number : goal.returns-then-number
returns-then-number c = sym (number_found _ _ c.if-number.true c.in_ok-number.ensures.some.1)

pub returns-else-number : goal.returns-else-number
returns-else-number c =
    sym (number_missing _ (λ n small e.
    let same = decimal_injective c.in_ok-number.number n c.in_ok-number.ensures.some.0 (omega (arith, small)) (sym c.in_ok-number.ensures.some.1 ∙ e) in
    omega (arith, c.if-number.false, small, same)))
