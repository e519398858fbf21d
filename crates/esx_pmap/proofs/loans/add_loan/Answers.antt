use Rattle.std.proofs.Common.{length, ap, sym, ◌∙◌, arith}
use Rattle.std.proofs.lemmas.List.{get_or_read}
use Rattle.esx_pmap.specs.declared.loans.Loan.{Loan}
use Rattle.esx_pmap.proofs.LoanLemmas.{loans_within, loans_insert}
use Rattle.esx_pmap.specs.Loans.{no_loan}
use Rattle.esx_pmap.proofs.loans.add_loan.Goals as goal
use Rattle.esx_pmap.proofs.loans.add_loan.Goals.{else-at-len-via-then-at-len+else-index-epoch, else-at-len-via-else-at-len}

pub unwrap-requires : goal.unwrap-requires
unwrap-requires c =
    let few = loans_within c.args.loans.now.items c.requires.loans.some in
    let len = ap length (sym c.deref.ensures.value) ∙ c.deref.ensures.len in
    c.insert.ensures.succeeds (omega (arith, few, len, c.requires.room))

pub returns-else-at-len-clause-loans : goal.returns-else-at-len-clause-loans
returns-else-at-len-clause-loans c =
    let loans = c.args.loans.now.items in
    let place = rw c.deref.ensures.value at c.place-at.ensures in
    let len = ap length (sym c.deref.ensures.value) ∙ c.deref.ensures.len in
    let more = rw c.unwrap.ensures at c.insert.ensures.items in
    rw more (loans_insert loans c.place-at.result (record { epoch = c.args.epoch; count = 1 }) c.requires.loans place (elim c.else-at-len.branch [
      | else-at-len-via-then-at-len+else-index-epoch w ↦ λ h e.
          let row = get_or_read loans c.place-at.result _ h w.index.ensures no_loan in
          w.if-index-epoch.false (ap (λ (l : Loan). l.epoch) row ∙ e)
      | else-at-len-via-else-at-len w ↦ λ h. absurd (omega (arith, h, len, w.if-at-len.false, c.len.ensures))
    ]) (omega arith))
