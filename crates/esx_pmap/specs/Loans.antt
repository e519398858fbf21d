-- How many pages are lent in each epoch, in the order of the epochs.
use Rattle.std.specs.Prelude.{ℕ, ◌<◌, ◌≤◌, ◌==◌, List, length, slice_index_or, sum_by, if◌then◌else◌}
use Rattle.esx_pmap.specs.declared.loans.Loan.{Loan}

abbrev pub no_loan : Loan
no_loan = record { epoch = 0; count = 0 }

abbrev pub loan_at : List Loan → ℕ → Loan
loan_at loans k = slice_index_or loans k no_loan

-- the epochs rise, and in each some page is lent
pub record AreLoans (loans : List Loan) : Type 0 where
  pub rising : (i j : ℕ) → i < j → j < length loans → (loan_at loans i).epoch < (loan_at loans j).epoch
  pub some : (i : ℕ) → i < length loans → 1 ≤ (loan_at loans i).count

-- the loans from an epoch on begin at a place
pub record IsPlace (loans : List Loan) (epoch at : ℕ) : Type 0 where
  pub bound : at ≤ length loans
  pub before : (k : ℕ) → k < at → (loan_at loans k).epoch < epoch
  pub after : (k : ℕ) → at ≤ k → k < length loans → epoch ≤ (loan_at loans k).epoch

-- what a loan adds to the pages lent in an epoch, and these pages
abbrev pub lent_of : ℕ → Loan → ℕ
lent_of epoch loan = if loan.epoch == epoch then loan.count else 0

abbrev pub lent_in : ℕ → List Loan → ℕ
lent_in epoch loans = sum_by (lent_of epoch) loans

-- the pages lent in any epoch
abbrev pub all_lent : List Loan → ℕ
all_lent loans = sum_by (λ loan. loan.count) loans
