use Rattle.std.proofs.Common.{sym, arith}
use Rattle.esx_pmap.proofs.LoanLemmas.{loan_found, no_loan_found}
use Rattle.esx_pmap.proofs.loans.lent_in.Goals as goal
use Rattle.esx_pmap.proofs.loans.lent_in.Goals.{else-at-loans-via-then-at-loans+else-loans-at, else-at-loans-via-else-at-loans}

pub returns-then-loans-at : goal.returns-then-loans-at
returns-then-loans-at c = sym (loan_found _ _ c.place-at.result c.requires (omega arith) c.if-loans-at.true)

pub returns-else-at-loans : goal.returns-else-at-loans
returns-else-at-loans c = sym (no_loan_found _ _ c.place-at.result c.requires c.place-at.ensures (elim c.else-at-loans.branch [
  | else-at-loans-via-then-at-loans+else-loans-at w ↦ λ h e. w.if-loans-at.false e
  | else-at-loans-via-else-at-loans w ↦ λ h. absurd (omega arith)
]))
