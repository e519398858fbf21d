use Rattle.std.proofs.Common.{sym, ◌∙◌, ap, [], ◌∷◌, decimal, drop, arith}
use Rattle.esx_scenario.proofs.LineLemmas.{read_found, read_missing}
use Rattle.esx_scenario.proofs.line.read_of.Goals as goal

pub returns-in_err-page : goal.returns-in_err-page
returns-in_err-page c = rw c.from_residual.ensures (sym (read_missing _ (λ page at len p a l e. c.in_err-page.ensures.none page at (decimal len ∷ []) p a e)))

pub returns-in_err-len : goal.returns-in_err-len
returns-in_err-len c = rw c.from_residual-in_err-len.ensures (sym (read_missing _ (λ page at len p a l e. c.in_err-len.ensures.none len [] l (ap (drop 2) (sym c.in_ok-page.ensures.some ∙ e)))))

pub returns-then-is_empty : goal.returns-then-is_empty
returns-then-is_empty c =
    let left = c.is_empty.ensures.0 c.if-is_empty.true in
    sym (read_found _ _ _ _ (omega arith) (omega arith) (omega arith) (c.in_ok-page.ensures.some ∙ ap (λ v. decimal c.in_ok-page.page ∷ decimal c.in_ok-page.at ∷ v) (c.in_ok-len.ensures.some ∙ ap (λ v. decimal c.in_ok-len.len ∷ v) left)))

pub returns-else-is_empty : goal.returns-else-is_empty
returns-else-is_empty c =
    sym (read_missing _ (λ page at len p a l e.
    let t = c.is_empty.ensures.1 (ap (drop 1) (sym c.in_ok-len.ensures.some ∙ ap (drop 2) (sym c.in_ok-page.ensures.some ∙ e))) in let f = c.if-is_empty.false in cc))
