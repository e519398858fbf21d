use Rattle.std.proofs.Common.{◌≤◌, length, ap, sym, ◌∙◌, arith}
use Rattle.std.proofs.lemmas.List.{get_or_read}
use Rattle.esx_pmap.specs.Loans.{no_loan, loan_at}
use Rattle.esx_pmap.proofs.LoanLemmas.{loan_there, lent-set_less, all-set_less, lent-remove, all-remove}
use Rattle.esx_pmap.proofs.loans.remove_loan.Goals as goal

pub index-requires : goal.index-requires
index-requires c =
    let loans = c.args.loans.now.items in
    let place = rw c.deref.ensures.value at c.place-at.ensures in
    let there = loan_there loans c.args.epoch c.place-at.result c.requires.loans place c.requires.some in
    let len = ap length (sym c.deref.ensures.value) ∙ c.deref.ensures.len in
    omega (arith, there.0, len)

pub index_mut-requires : goal.index_mut-requires
index_mut-requires c =
    let loans = c.args.loans.now.items in
    let place = rw c.deref.ensures.value at c.place-at.ensures in
    let there = loan_there loans c.args.epoch c.place-at.result c.requires.loans place c.requires.some in
    let len = ap length (sym c.deref.ensures.value) ∙ c.deref.ensures.len in
    omega (arith, there.0, len)

pub remove-requires : goal.remove-requires
remove-requires c =
    let loans = c.args.loans.now.items in
    let place = rw c.deref.ensures.value at c.place-at.ensures in
    let there = loan_there loans c.args.epoch c.place-at.result c.requires.loans place c.requires.some in
    let len = ap length (sym c.deref.ensures.value) ∙ c.deref.ensures.len in
    omega (arith, there.0, len)

pub overflow_sub-index_mut : goal.overflow_sub-index_mut
overflow_sub-index_mut c =
    let loans = c.args.loans.now.items in
    let place = rw c.deref.ensures.value at c.place-at.ensures in
    let there = loan_there loans c.args.epoch c.place-at.result c.requires.loans place c.requires.some in
    let same = get_or_read loans c.place-at.result _ there.0 c.index_mut.ensures.value no_loan in
    rw same (c.requires.loans.some c.place-at.result there.0)

pub returns-then-index-gt1-clause-each : goal.returns-then-index-gt1-clause-each
returns-then-index-gt1-clause-each c e =
    let loans = c.args.loans.now.items in
    let place = rw c.deref.ensures.value at c.place-at.ensures in
    let there = loan_there loans c.args.epoch c.place-at.result c.requires.loans place c.requires.some in
    let same = get_or_read loans c.place-at.result _ there.0 c.index_mut.ensures.value no_loan in
    let some = c.requires.loans.some c.place-at.result there.0 in
    rw (same, sym there.1) (lent-set_less loans c.place-at.result _ e there.0 (omega (arith, some)))

pub returns-then-index-gt1-clause-all : goal.returns-then-index-gt1-clause-all
returns-then-index-gt1-clause-all c =
    let loans = c.args.loans.now.items in
    let place = rw c.deref.ensures.value at c.place-at.ensures in
    let there = loan_there loans c.args.epoch c.place-at.result c.requires.loans place c.requires.some in
    let same = get_or_read loans c.place-at.result _ there.0 c.index_mut.ensures.value no_loan in
    let some = c.requires.loans.some c.place-at.result there.0 in
    rw same (all-set_less loans c.place-at.result _ _ there.0 (omega (arith, some)))

pub returns-else-index-gt1-clause-each : goal.returns-else-index-gt1-clause-each
returns-else-index-gt1-clause-each c e =
    let loans = c.args.loans.now.items in
    let place = rw c.deref.ensures.value at c.place-at.ensures in
    let there = loan_there loans c.args.epoch c.place-at.result c.requires.loans place c.requires.some in
    let row = get_or_read loans c.place-at.result _ there.0 c.index.ensures no_loan in
    let some = c.requires.loans.some c.place-at.result there.0 in
    let few : (loan_at loans c.place-at.result).count ≤ 1 = rw row at c.if-index-gt1.false in
    rw (c.remove.ensures.items, sym there.1) (lent-remove loans c.place-at.result e there.0 (omega arith))

pub returns-else-index-gt1-clause-all : goal.returns-else-index-gt1-clause-all
returns-else-index-gt1-clause-all c =
    let loans = c.args.loans.now.items in
    let place = rw c.deref.ensures.value at c.place-at.ensures in
    let there = loan_there loans c.args.epoch c.place-at.result c.requires.loans place c.requires.some in
    let row = get_or_read loans c.place-at.result _ there.0 c.index.ensures no_loan in
    let some = c.requires.loans.some c.place-at.result there.0 in
    let few : (loan_at loans c.place-at.result).count ≤ 1 = rw row at c.if-index-gt1.false in
    rw c.remove.ensures.items (all-remove loans c.place-at.result there.0 (omega arith))
