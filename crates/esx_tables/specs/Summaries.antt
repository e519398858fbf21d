-- What a summary tells of marks. No public clause cites this module.
use Rattle.std.specs.Prelude.{◌≡◌, ℕ, ◌/◌, ◌%◌, ◌==◌, Bool, true, List, All, count_by, slice_index}
use Rattle.std.specs.Int.{bit_at}
use Rattle.esx_model.specs.declared.book.Mark.{Mark}
use Rattle.esx_tables.specs.declared.period.Summary.{Summary}
use Rattle.esx_tables.specs.declared.period.TheConstants.{BITS}

-- the bit of the page is set
abbrev pub may_name : Summary → ℕ → Bool
may_name s page = bit_at (slice_index s.words (page % BITS / 64)) (page % BITS % 64) == 1

-- the page's bit, and each that was set before
pub record MayNameMore (old new : Summary) (page : ℕ) : Type 0 where
  pub same : may_name new page ≡ true
  pub others : (p : ℕ) → may_name old p ≡ true → may_name new p ≡ true

-- the bit of each mark's page is set, and so many marks are touched
pub record IsSummary (s : Summary) (marks : List Mark) : Type 0 where
  pub pages : All (λ m. may_name s m.page ≡ true) marks
  pub touched : s.touched ≡ count_by (λ m. m.touched) marks
