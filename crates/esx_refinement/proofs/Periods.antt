-- Open periods in the tables of a sound site.
use Rattle.std.proofs.Common.{◌≡◌, ℕ, length, map, refl, sym, ◌∙◌, subst, arith, Option, Some, None}
use Rattle.std.specs.Option.{option_map}
use Rattle.std.proofs.lemmas.List.{length-map}
use Rattle.esx_types.specs.declared.config.Config.{Config}
use Rattle.esx_formulas.specs.declared.activity.Period.{Period}
use Rattle.esx_formulas.specs.Average.{is_touched}
use Rattle.esx_model.specs.declared.scene.Vm.{Vm}
use Rattle.esx_model.specs.declared.scene.Site.{Site}
use Rattle.esx_model.specs.declared.book.Mark.{Mark}
use Rattle.esx_model.specs.declared.book.PeriodRow.{PeriodRow}
use Rattle.esx_model.specs.declared.book.VmRow.{VmRow}
use Rattle.esx_model.specs.Site.{vm_at}
use Rattle.esx_model.specs.Show.{period_row}
use Rattle.esx_model.specs.Tables.{vm_table, tables_of}
use Rattle.esx_model.specs.sound.Machines.{IsPeriod, IsPeriodOrNone}
use Rattle.esx_model.specs.sound.Sound.{IsSound}
use Rattle.esx_changes.specs.Counted.{IsOpen, IsOpenOf, ArePeriodsOpen}
use Rattle.esx_refinement.proofs.Refining.{row_there}

open_shown : (max : ℕ) (q : Period) → IsPeriod max q → IsOpen (period_row q)
open_shown max q fits =
    let mark : ℕ → Mark = λ page. record { page = page; touched = is_touched q page } in
    let same : length (map mark q.pages) ≡ length q.pages = length-map q.pages mark in
    record { still = fits.open_still; least = (let l = fits.least_pages in omega (arith, same, l)); most = (let m = fits.most_pages in omega (arith, same, m)) }

open_of : (max : ℕ) (o : Option Period) (p : PeriodRow) → IsPeriodOrNone max o → option_map period_row o ≡ Some p → IsOpen p
open_of max None p fits e = cc
open_of max (Some q) p fits e =
    let P : PeriodRow → Type 0 = IsOpen in
    let same : period_row q ≡ p = cc in
    subst P same (open_shown max q fits)

of_machine : (c : Config) (s : Site) (n : ℕ) (o : Option Vm) (v : VmRow) → IsSound c s → vm_at s n ≡ o → option_map vm_table o ≡ Some v → IsOpenOf v
of_machine c s n None v sound there e = cc
of_machine c s n (Some w) v sound there e =
    let P : VmRow → Type 0 = IsOpenOf in
    let same : vm_table w ≡ v = cc in
    subst P same (λ p is. open_of w.spec.max w.period p (sound.each n w there).period is)

pub periods_open : (c : Config) (s : Site) → IsSound c s → ArePeriodsOpen (tables_of c s)
periods_open c s sound n v e = of_machine c s n (vm_at s n) v sound refl (sym (row_there c s n) ∙ e)
