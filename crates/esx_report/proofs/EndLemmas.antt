-- What stands before the ends of lines.
use Rattle.std.proofs.Common.{◌≡◌, ◌+◌, ◌-◌, ◌/◌, ◌%◌, ◌<◌, ◌++◌, ◌∷◌, [], ℕ, zero, suc, true, false, List, length, arith, decimal, codes, flat_map, replicate, ap, sym, refl, ◌∙◌, ◌==◌, if◌then◌else◌, append_assoc, append-nil, take, drop, subst, Option, Some, None}
use Rattle.std.proofs.lemmas.Grind.{flat_map-append}
use Rattle.std.specs.Fmt.{digits, digits_onto, digit_glyph}
use Rattle.std.proofs.lemmas.Bool.{lt-ltb}
use Rattle.esx_report.specs.declared.field.Field.{Field}
use Rattle.esx_report.specs.declared.field.Field.TheVariants as fields
use Rattle.esx_report.specs.declared.losses.LossLine.{LossLine}
use Rattle.esx_sums.specs.declared.guest.Guest.{Guest}
use Rattle.esx_report.specs.declared.column.Cell.{Cell}
use Rattle.esx_report.specs.declared.column.Cell.TheVariants.{Right}
use Rattle.esx_report.specs.Fields.{cell_text, field_text}
use Rattle.esx_report.specs.Rows.{table_row}
use Rattle.esx_report.specs.Ends.{last_of, IsTrimmed}
use Rattle.esx_report.specs.Losses.{number_field}
use Rattle.esx_report.specs.LossTable.{loss_cells, loss_line}
use Rattle.esx_report.specs.Guests.{guest_cells, guest_line}

last_both : (d : ℕ) (xs ys : List ℕ) → last_of d (xs ++ ys) ≡ last_of (last_of d xs) ys
last_both d [] ys = refl
last_both d (x ∷ xs) ys = last_both x xs ys

last_onto : (k n d x : ℕ) (acc : List ℕ) → last_of d (digits_onto k 10 false n (x ∷ acc)) ≡ last_of x acc
last_onto zero n d x acc = refl
last_onto (suc k) n d x acc =
    elim (n / 10 == 0) as (λ v. last_of d (if v then digit_glyph false (n % 10) ∷ x ∷ acc else digits_onto k 10 false (n / 10) (digit_glyph false (n % 10) ∷ x ∷ acc)) ≡ last_of x acc) [
      | true ↦ refl
      | false ↦ last_onto k (n / 10) d (digit_glyph false (n % 10)) (x ∷ acc)
    ]

last_digit : (k n d : ℕ) → last_of d (digits_onto (suc k) 10 false n []) ≡ digit_glyph false (n % 10)
last_digit k n d =
    elim (n / 10 == 0) as (λ v. last_of d (if v then digit_glyph false (n % 10) ∷ [] else digits_onto k 10 false (n / 10) (digit_glyph false (n % 10) ∷ [])) ≡ digit_glyph false (n % 10)) [
      | true ↦ refl
      | false ↦ last_onto k (n / 10) d (digit_glyph false (n % 10)) []
    ]

last_decimal : (n d : ℕ) → last_of d (decimal n) ≡ digit_glyph false (n % 10)
unfolding digits
last_decimal n d = last_digit 63 n d

glyph_is : (d : ℕ) → d < 10 → digit_glyph false d ≡ 48 + d
glyph_is d small = ap (λ v. if v then 48 + d else 87 + d) (lt-ltb d 10 small)

number_ends : (n d : ℕ) → last_of d (decimal n) ≡ 32 → ⊥
number_ends n d is =
    let small : n % 10 < 10 = omega arith in
    let e : last_of d (decimal n) ≡ 48 + n % 10 = last_decimal n d ∙ glyph_is (n % 10) small in
    omega (arith, is, e)

none_ends : (d : ℕ) → last_of d (codes "-") ≡ 32 → ⊥
none_ends d is = omega (arith, is)

cell_ends : (width d : ℕ) (f : Field) → ((e : ℕ) → last_of e (field_text (codes "-") f) ≡ 32 → ⊥) → last_of d (cell_text (Right width f)) ≡ 32 → ⊥
cell_ends width d f h is =
    let blanks = replicate (width - length (field_text (codes "-") f)) 32 in
    h (last_of d blanks) (sym (last_both d blanks (field_text (codes "-") f)) ∙ is)

line_ends : (front : List ℕ) (width : ℕ) (f : Field) → ((e : ℕ) → last_of e (field_text (codes "-") f) ≡ 32 → ⊥) → IsTrimmed ((front ++ cell_text (Right width f)) ++ codes "\n")
line_ends front width f h = (
  front ++ cell_text (Right width f),
  refl,
  λ is. cell_ends width (last_of 32 front) f h (sym (last_both 32 front (cell_text (Right width f))) ∙ is),
)

-- a row whose last field ends in no blank and stands at the right of its column
row_ends : (x : Cell) (xs : List Cell) (width : ℕ) (f : Field) → ((e : ℕ) → last_of e (field_text (codes "-") f) ≡ 32 → ⊥)
    → IsTrimmed (table_row (x ∷ (xs ++ (Right width f ∷ []))))
row_ends x xs width f h =
    let first : List ℕ = cell_text x in
    let cell : List ℕ = cell_text (Right width f) in
    let more : List ℕ = flat_map (λ y. codes " " ++ cell_text y) xs in
    let nl : List ℕ = codes "\n" in
    let cut : flat_map (λ y. codes " " ++ cell_text y) (xs ++ (Right width f ∷ [])) ≡ (more ++ (32 ∷ [])) ++ cell =
    flat_map-append (λ y. codes " " ++ cell_text y) xs (Right width f ∷ []) ∙ ap (λ v. more ++ v) (append-nil (32 ∷ cell)) ∙ sym (append_assoc more (32 ∷ []) cell) in
    let whole : ((first ++ (more ++ (32 ∷ []))) ++ cell) ++ nl ≡ table_row (x ∷ (xs ++ (Right width f ∷ []))) =
    ap (λ v. v ++ nl) (append_assoc first (more ++ (32 ∷ [])) cell) ∙ append_assoc first ((more ++ (32 ∷ [])) ++ cell) nl ∙ ap (λ v. first ++ (v ++ nl)) (sym cut) in
    subst IsTrimmed whole (line_ends (first ++ (more ++ (32 ∷ []))) width f h)

pub loss_ends : (line : LossLine) → IsTrimmed (loss_line line)
loss_ends line = row_ends (Right 8 (fields.Number line.loss.at)) (take 19 (drop 1 (loss_cells line))) 5 (fields.Number line.loss.waits) (number_ends line.loss.waits)

target_ends : (target : Option ℕ) (e : ℕ) → last_of e (field_text (codes "-") (number_field target)) ≡ 32 → ⊥
target_ends None e = none_ends e
target_ends (Some n) e = number_ends n e

pub guest_ends : (guest : Guest) → IsTrimmed (guest_line guest)
guest_ends guest = row_ends (Right 3 (fields.Number guest.vm)) (take 20 (drop 1 (guest_cells guest))) 6 (number_field guest.target) (target_ends guest.target)
