-- What an access changes of its machine's row where a sample period is open.
use Rattle.std.specs.Prelude.{◌≡◌, ◌<◌, ◌≤◌, ℕ, ◌+◌, ◌==◌, ◌&&◌, ◌||◌, not, nat_lt, Bool, List, [], ◌∷◌, length, count_by, Option, Some, None, if◌then◌else◌}
use Rattle.esx_types.specs.declared.config.TheConstants.{MAX_SAMPLE}
use Rattle.esx_average.specs.Means.{Means, estimate, next_means}
use Rattle.esx_model.specs.declared.book.Mark.{Mark}
use Rattle.esx_model.specs.declared.book.PeriodRow.{PeriodRow}
use Rattle.esx_model.specs.declared.book.VmRow.{VmRow}
use Rattle.esx_model.specs.declared.tables.Tables.{Tables}
use Rattle.esx_tables.specs.declared.change.VmPart.{VmPart}
use Rattle.esx_tables.specs.declared.change.VmPart.TheVariants.{Period, Done, Touched, Averages}
use Rattle.esx_tables.specs.Readings.{row_at}

-- the mark names the page, which was not accessed before
abbrev pub is_first : ℕ → Mark → Bool
is_first page m = (page == m.page) && not m.touched

-- those marks turn, where the first of them stands at i
abbrev pub turned_from : ℕ → ℕ → List Mark → List VmPart
turned_from i page [] = []
turned_from i page (m ∷ ms) = if is_first page m then Touched i ∷ turned_from (i + 1) page ms else turned_from (i + 1) page ms

-- of marks, those among which all that turn are: as many turn, in the same places
pub record AreNear (page : ℕ) (near marks : List Mark) : Type 0 where
  pub turned : turned_from 0 page near ≡ turned_from 0 page marks
  pub count : count_by (is_first page) near ≡ count_by (is_first page) marks
  pub most : length near ≤ length marks

-- the mark's page was accessed before, or is accessed now
abbrev pub is_touched_by : ℕ → Mark → Bool
is_touched_by page m = m.touched || (page == m.page)

-- the averages once the period has closed with this access
abbrev pub closed_means : ℕ → Means → List Mark → Means
closed_means page means marks = next_means means (estimate (count_by (is_touched_by page) marks) (length marks))

-- one more access is done; the last one closes the period
abbrev pub period_parts : ℕ → Means → PeriodRow → List VmPart
period_parts page means p =
    if nat_lt (p.done + 1) p.length then Done (p.done + 1) ∷ turned_from 0 page p.marks
    else Period None ∷ Averages (closed_means page means p.marks) ∷ []

abbrev pub open_parts : ℕ → Means → Option PeriodRow → List VmPart
open_parts page means None = []
open_parts page means (Some p) = period_parts page means p

-- an access is counted where a period is open
abbrev pub counted_parts : VmRow → ℕ → List VmPart
counted_parts v page = open_parts page (record { slow = v.slow; fast = v.fast }) v.period

-- An open period as the tables of a sound site tell it: it has accesses left, and 1 to `MAX_SAMPLE` pages.
pub record IsOpen (p : PeriodRow) : Type 0 where
  pub still : p.done < p.length
  pub least : 1 ≤ length p.marks
  pub most : length p.marks ≤ MAX_SAMPLE

abbrev pub IsOpenOf : VmRow → Type 0
IsOpenOf v = (p : PeriodRow) → v.period ≡ Some p → IsOpen p

-- of each machine
abbrev pub ArePeriodsOpen : Tables → Type 0
ArePeriodsOpen t = (n : ℕ) (v : VmRow) → row_at t n ≡ Some v → IsOpenOf v
