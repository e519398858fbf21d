use Rattle.std.proofs.Common.{ltb, arith, rules}
use Rattle.std.proofs.lemmas.Bool.{ltb-true, ltb-false}
use Rattle.std.proofs.lemmas.List.Sorted.{IsPartitionPoint-from_clause, IsPartitionedBy-ltb}
use Rattle.esx_pmap.specs.declared.loans.Loan.{Loan}
use Rattle.esx_pmap.proofs.LoanLemmas.{are_rising}
use Rattle.esx_pmap.specs.Loans.{no_loan}
use Rattle.esx_pmap.proofs.loans.place.Goals as goal

pub returns : goal.returns
returns c =
    let parted = IsPartitionedBy-ltb (λ (l : Loan). l.epoch) c.args.loans.now c.args.epoch (are_rising _ c.requires) in
    let point = IsPartitionPoint-from_clause (λ (l : Loan). ltb l.epoch c.args.epoch) _ _ c.partition_point.ensures.partitioned parted (λ a r q k. search rules) in
    record {
      bound = c.partition_point.ensures.bound;
      before = λ k q. ltb-true _ _ (point.0 k no_loan (omega arith) q);
      after = λ k q r. ltb-false _ _ (point.1 k no_loan q r);
    }
