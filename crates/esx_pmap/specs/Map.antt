-- What a page map keeps beside its rows.
use Rattle.std.specs.Prelude.{◌≡◌, ℕ, ◌+◌, ◌-◌, ◌/◌, ◌^◌, ◌<◌, ◌≤◌, List, length, slice_index, count_by}
use Rattle.esx_types.specs.declared.table.MapRow.{MapRow}
use Rattle.esx_types.specs.Pages.{is_lent, resident_count, out_count, lent_count}
use Rattle.esx_pmap.specs.declared.loans.Loan.{Loan}
use Rattle.esx_pmap.specs.declared.map.TheConstants.{BLOCK}
use Rattle.esx_pmap.specs.Blocks.{block_count}
use Rattle.esx_pmap.specs.Loans.{AreLoans, lent_in, all_lent}

-- a page's number fits, and the counts are those of the blocks and of all rows
pub record IsMap (rows : List MapRow) (blocks : List ℕ) (resident out : ℕ) : Type 0 where
  pub fits : length rows < 2 ^ 32
  pub enough : length blocks ≡ (length rows + (BLOCK - 1)) / BLOCK
  pub each : (b : ℕ) → slice_index blocks b ≡ block_count rows b
  pub all : resident ≡ resident_count rows
  pub outside : out ≡ out_count rows

-- the loans are those of the rows, and there is room for as many as there are rows
pub record AreLent (rows : List MapRow) (kept : List Loan) (capacity : ℕ) : Type 0 where
  pub loans : AreLoans kept
  pub each : (epoch : ℕ) → lent_in epoch kept ≡ lent_count epoch rows
  pub all : all_lent kept ≡ count_by is_lent rows
  pub room : length rows ≤ capacity
