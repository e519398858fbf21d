-- Rows, one by one.
use Rattle.std.proofs.Common.{◌≡◌, ℕ, ◌+◌, ◌-◌, ◌<◌, false, List, length, get_or, ap, inl, inr, below_more, arith}
use Rattle.std.proofs.lemmas.Bool.{cases_lt}
use Rattle.std.proofs.lemmas.Bool.Decides.{nat_tests}
use Rattle.std.specs.Ordering.{is_le, nat_cmp}
use Rattle.std.proofs.lemmas.List.{get_or_read}
use Rattle.esx_formulas.specs.declared.targets.Row.{Row}
use Rattle.esx_formulas.specs.Ratio.{IsRow, AreRows, row_at, no_row}

-- the first n rows are rows of machines in order
pub record AreRowsBelow (rows : List Row) (n : ℕ) : Type 0 where
  pub each : (i : ℕ) → i < n → IsRow (row_at rows i)
  pub ordered : (i j : ℕ) → i < j → j < n → (row_at rows i).vm < (row_at rows j).vm

pub row_read : (rows : List Row) (i : ℕ) (row : Row) → i < length rows → row ≡ get_or rows i row → row ≡ row_at rows i
row_read rows i row fits read = get_or_read rows i row fits read no_row

pub good_read : (rows : List Row) (i : ℕ) (row : Row) → AreRows rows → i < length rows → row ≡ get_or rows i row → IsRow row
good_read rows i row are fits read = rw (row_read rows i row fits read) (are.each i fits)

pub pages_read : (rows : List Row) (i : ℕ) (row : Row) → i < length rows → row ≡ get_or rows i row → row.pages ≡ (row_at rows i).pages
pages_read rows i row fits read = ap (λ (r : Row). r.pages) (row_read rows i row fits read)

pub rows_begin : (rows : List Row) → AreRowsBelow rows 0
rows_begin rows = record { each = λ i p. absurd (omega arith); ordered = λ i j p q. absurd (omega arith) }

pub rows_end : (rows : List Row) → AreRowsBelow rows (length rows) → AreRows rows
rows_end rows h = record { each = h.each; ordered = h.ordered }

-- one more row
pub rows_more : (rows : List Row) (n : ℕ) (row : Row) → AreRowsBelow rows n → n < length rows → row ≡ get_or rows n row → IsRow row →
    (0 < n → (row_at rows (n - 1)).vm < row.vm) → AreRowsBelow rows (n + 1)
rows_more rows n row h fits read good above =
    let stands : row ≡ row_at rows n = row_read rows n row fits read in
    let last : 0 < n → (row_at rows (n - 1)).vm < (row_at rows n).vm = rw (← stands) above in
    record {
      each = below_more (λ k. IsRow (row_at rows k)) n h.each (rw (← stands) good);
      ordered = λ i j p q. elim (cases_lt j n) [
        | inl r ↦ h.ordered i j p r
        | inr r ↦
            let e : j ≡ n = omega arith in
            let next : (row_at rows (n - 1)).vm < (row_at rows n).vm = last (omega arith) in
            rw e (elim (cases_lt i (n - 1)) [
              | inl s ↦ omega (arith, h.ordered i (n - 1) s (omega arith))
              | inr s ↦ let e' : i ≡ n - 1 = omega arith in rw e' next
            ])
      ];
    }

pub above_from_test : (a b : ℕ) → is_le (nat_cmp a b) ≡ false → b < a
above_from_test a b e = grind (arith, nat_tests)
