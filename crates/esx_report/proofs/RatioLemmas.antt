-- Ratios of rows whose numbers are in their ranges.
use Rattle.std.proofs.Common.{◌≡◌, ◌-◌, ◌*◌, ◌/◌, ◌<◌, ◌≤◌, ℕ, List, arith, ap, ◌∙◌, ◌==◌, if◌then◌else◌}
use Rattle.std.proofs.Math.Nat.{mul-le-mul_left, zero-mul}
use Rattle.esx_formulas.specs.declared.targets.Row.{Row}
use Rattle.esx_formulas.specs.declared.activity.TheConstants.{WHOLE}
use Rattle.esx_formulas.specs.declared.ratio.TheConstants.{WHOLE_PRICE}
use Rattle.esx_formulas.specs.Ratio.{claim, thousandths, IsRow}
use Rattle.esx_writing.specs.Writing.{thousandths_text}
use Rattle.esx_report.specs.Fields.{field_text}
use Rattle.esx_report.specs.Losses.{ratio}
use Rattle.esx_report.proofs.CommaLemmas.{not_match}

some_under : (row : Row) → IsRow row → 0 < row.pages → (claim row row.pages).under ≡ 0 → ⊥
some_under row good some is =
    let less : row.tau * row.active ≤ row.tau * 65536 = mul-le-mul_left row.tau good.most_active in
    let most : row.tau ≤ 99 = good.most_tau in
    let price : 1 ≤ WHOLE_PRICE - row.tau * row.active = omega (arith, less, most) in
    let all : row.pages * 1 ≤ row.pages * (WHOLE_PRICE - row.tau * row.active) = mul-le-mul_left row.pages price in
    let zero : row.pages * (WHOLE_PRICE - row.tau * row.active) ≡ 0 = is in
    let one : row.pages * 1 ≤ 0 = rw zero at all in
    omega (arith, one, some)

pub ratio_of_pages : (row : Row) (none : List ℕ) → IsRow row → 0 < row.pages
    → field_text none (ratio row) ≡ thousandths_text (thousandths (claim row row.pages))
ratio_of_pages row none good some =
    ap (λ v. if v then none else thousandths_text (thousandths (claim row row.pages)))
    (not_match (claim row row.pages).under 0 (some_under row good some))

pub ratio_of_nothing : (row : Row) (none : List ℕ) → row.pages ≡ 0 → field_text none (ratio row) ≡ none
ratio_of_nothing row none e =
    let zero : (claim row row.pages).under ≡ 0 = ap (λ p. p * (WHOLE_PRICE - row.tau * row.active)) e ∙ zero-mul (WHOLE_PRICE - row.tau * row.active) in
    ap (λ u. if u == 0 then none else thousandths_text (1000 * (WHOLE * (claim row row.pages).over) / u)) zero
