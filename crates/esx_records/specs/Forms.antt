-- The forms of a record, and where a page is.
use Rattle.std.specs.Prelude.{◌≡◌, ℕ, zero, suc, Some}
use Rattle.esx_types.specs.declared.table.MapRow.TheVariants.{Here}
use Rattle.esx_types.specs.Pages.{page_at}
use Rattle.esx_model.specs.declared.book.VmRow.{VmRow}
use Rattle.esx_model.specs.declared.tables.Tables.{Tables}
use Rattle.esx_tables.specs.Readings.{row_at}
use Rattle.esx_machine.specs.Machine.{Kept, Back, turned}

-- a record after so many flips, which lead from here to there and back
abbrev pub after_flips : ℕ → Back → Kept → Kept → Back
after_flips zero r here there = r
after_flips (suc k) r here there = after_flips k (turned r here) there here

-- the page of a machine is in a frame
pub record IsIn (t : Tables) (n page frame : ℕ) : Type 0 where
  pub row : VmRow
  pub machine : row_at t n ≡ Some row
  pub place : page_at row.pages page ≡ Here frame
