-- What an access changes of an open period.
use Rattle.std.proofs.Common.{◌≡◌, ℕ, ◌+◌, ◌≤◌, nat_lt, Bool, true, false, List, [], ◌∷◌, length, map, refl, arith, cond, Option, Some, None}
use Rattle.esx_average.specs.Means.{Means}
use Rattle.esx_types.specs.declared.config.Config.{Config}
use Rattle.esx_model.specs.declared.book.Mark.{Mark}
use Rattle.esx_model.specs.declared.book.PeriodRow.{PeriodRow}
use Rattle.esx_model.specs.declared.book.VmRow.{VmRow}
use Rattle.esx_tables.specs.declared.change.Change.{Change}
use Rattle.esx_tables.specs.declared.change.Change.TheVariants.{OfVm}
use Rattle.esx_tables.specs.declared.change.VmPart.TheVariants.{Period, Done, Touched, Averages}
use Rattle.esx_tables.specs.Sizes.{bytes_held, marks_held, is_row, is_target}
use Rattle.esx_changes.specs.Counted.{is_first, turned_from, closed_means, open_parts, counted_parts, IsOpen, IsOpenOf}
use Rattle.esx_records.proofs.Alike.{places_held}
use Rattle.esx_records.proofs.Totals.{total, one_if}
use Rattle.esx_records.proofs.Pages.{bytes_most, whole_rows}
use Rattle.esx_records.proofs.Marks.{marks_most}
use Rattle.esx_records.proofs.Modest.{IsLight}

-- as many marks at most
record Turns (c : Config) (marks : ℕ) (changes : List Change) : Type 0 where
  bytes : total bytes_held changes ≡ 0
  pages : total (bytes_most c) changes ≡ 0
  whole : total whole_rows changes ≡ 0
  rows : total (one_if is_row) changes ≡ 0
  held : total marks_held changes ≤ marks
  turned : total marks_most changes ≤ marks
  targets : total (one_if is_target) changes ≡ 0
  machines : total places_held changes ≡ 0

turns : (c : Config) (n i page : ℕ) (marks : List Mark) → Turns c (length marks) (map (OfVm n) (turned_from i page marks))
turns c n i page [] = record { bytes = refl; pages = refl; whole = refl; rows = refl; held = omega arith; turned = omega arith; targets = refl; machines = refl }
turns c n i page (m ∷ ms) = of (turns c n (i + 1) page ms) (is_first page m)
  where
    of : Turns c (length ms) (map (OfVm n) (turned_from (i + 1) page ms)) → (b : Bool)
        → Turns c (length (m ∷ ms)) (map (OfVm n) (cond b (Touched i ∷ turned_from (i + 1) page ms) (turned_from (i + 1) page ms)))
    of r true =
        let b = r.bytes in let g = r.pages in let w = r.whole in let k = r.rows in let h = r.held in let u = r.turned in let a = r.targets in let v = r.machines in
        record { bytes = omega (arith, b); pages = omega (arith, g); whole = omega (arith, w); rows = omega (arith, k); held = omega (arith, h); turned = omega (arith, u); targets = omega (arith, a); machines = omega (arith, v) }
    of r false =
        let h = r.held in let u = r.turned in
        record { bytes = r.bytes; pages = r.pages; whole = r.whole; rows = r.rows; held = omega (arith, h); turned = omega (arith, u); targets = r.targets; machines = r.machines }

period_light : (c : Config) (n page : ℕ) (means : Means) (p : PeriodRow) → IsOpen p → (b : Bool)
    → IsLight c 2 (map (OfVm n) (cond b (Done (p.done + 1) ∷ turned_from 0 page p.marks) (Period None ∷ Averages (closed_means page means p.marks) ∷ [])))
period_light c n page means p fits true =
    let t = turns c n 0 page p.marks in
    let most = fits.most in
    let b = t.bytes in let g = t.pages in let w = t.whole in let r = t.rows in let h = t.held in let u = t.turned in let a = t.targets in let v = t.machines in
    record { bytes = omega (arith, b); pages = omega (arith, g); whole = omega (arith, w); rows_most = omega (arith, r); marks = omega (arith, h, most); turned = omega (arith, u, most); targets = omega (arith, a); machines = omega (arith, v) }
period_light c n page means p fits false =
    record { bytes = refl; pages = refl; whole = refl; rows_most = omega arith; marks = omega arith; turned = omega arith; targets = refl; machines = refl }

opened_light : (c : Config) (n page : ℕ) (means : Means) (o : Option PeriodRow) → ((p : PeriodRow) → o ≡ Some p → IsOpen p) → IsLight c 2 (map (OfVm n) (open_parts page means o))
opened_light c n page means None fits = record { bytes = refl; pages = refl; whole = refl; rows_most = omega arith; marks = omega arith; turned = omega arith; targets = refl; machines = refl }
opened_light c n page means (Some p) fits = period_light c n page means p (fits p refl) (nat_lt (p.done + 1) p.length)

pub counted_light : (c : Config) (n page : ℕ) (v : VmRow) → IsOpenOf v → IsLight c 2 (map (OfVm n) (counted_parts v page))
counted_light c n page v fits = opened_light c n page (record { slow = v.slow; fast = v.fast }) v.period fits
