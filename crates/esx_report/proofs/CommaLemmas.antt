-- How many commas texts have.
use Rattle.std.proofs.Common.{◌≡◌, ◌+◌, ◌*◌, ◌/◌, ◌%◌, ◌<◌, ◌++◌, ◌∷◌, [], ℕ, zero, suc, Bool, true, false, List, length, arith, decimal, codes, flat_map, ap, sym, refl, ◌∙◌, ◌==◌, if◌then◌else◌}
use Rattle.std.specs.Fmt.{digits, digits_onto, digit_glyph}
use Rattle.std.proofs.lemmas.Bool.{lt-ltb}
use Rattle.std.proofs.lemmas.Bool.Decides.{Decides-eqb}
use Rattle.std.proofs.Math.Dec.{eqb}
use Rattle.esx_types.specs.declared.level.Level.{Level}
use Rattle.esx_types.specs.declared.level.Level.TheVariants.{High, Soft, Hard, Low}
use Rattle.esx_story.specs.declared.change.How.{How}
use Rattle.esx_story.specs.declared.change.How.TheVariants as hows
use Rattle.esx_story.specs.declared.change.Spot.{Spot}
use Rattle.esx_story.specs.declared.change.Spot.TheVariants as spots
use Rattle.esx_report.specs.declared.field.Field.{Field}
use Rattle.esx_report.specs.declared.field.Field.TheVariants as fields
use Rattle.esx_writing.specs.Writing.{thousandths_text}
use Rattle.esx_report.specs.Fields.{field_text, how_text, level_text, spot_text, percent_text}
use Rattle.esx_report.specs.Rows.{csv_row}
use Rattle.esx_report.specs.Losses.{commas, field_count}

pub not_match : (b c : ℕ) → (b ≡ c → ⊥) → eqb b c ≡ false
not_match b c ne = grind (arith, Decides-eqb b c)

glyph_is : (d : ℕ) → d < 10 → digit_glyph false d ≡ 48 + d
glyph_is d small = ap (λ v. if v then 48 + d else 87 + d) (lt-ltb d 10 small)

digit_plain : (n : ℕ) (acc : List ℕ) → commas (digit_glyph false (n % 10) ∷ acc) ≡ commas acc
digit_plain n acc =
    let e = glyph_is (n % 10) (omega arith) in
    ap (λ v. if v then commas acc + 1 else commas acc) (not_match (digit_glyph false (n % 10)) 44 (λ is. omega (arith, e, is)))

digits_plain : (k n : ℕ) (acc : List ℕ) → commas (digits_onto k 10 false n acc) ≡ commas acc
digits_plain zero n acc = refl
digits_plain (suc k) n acc =
    elim (n / 10 == 0) as (λ v. commas (if v then digit_glyph false (n % 10) ∷ acc else digits_onto k 10 false (n / 10) (digit_glyph false (n % 10) ∷ acc)) ≡ commas acc) [
      | true ↦ digit_plain n acc
      | false ↦ digits_plain k (n / 10) (digit_glyph false (n % 10) ∷ acc) ∙ digit_plain n acc
    ]

number_plain : (n : ℕ) → commas (decimal n) ≡ 0
unfolding digits
number_plain n = digits_plain 64 n []

commas_both : (xs ys : List ℕ) → commas (xs ++ ys) ≡ commas xs + commas ys
commas_both [] ys = omega arith
commas_both (x ∷ xs) ys =
    let more = commas_both xs ys in
    elim (x == 44) as (λ v. (if v then commas (xs ++ ys) + 1 else commas (xs ++ ys)) ≡ (if v then commas xs + 1 else commas xs) + commas ys) [
      | true ↦ omega (arith, more)
      | false ↦ more
    ]

thousandths_plain : (t : ℕ) → commas (thousandths_text t) ≡ 0
thousandths_plain t = simp (commas_both, number_plain) refl

percent_plain : (t : ℕ) → commas (percent_text t) ≡ 0
percent_plain t = simp (commas_both, number_plain) refl

place_plain : (a b : ℕ) → commas (decimal a ++ (codes "/" ++ decimal b)) ≡ 0
place_plain a b = simp (commas_both, number_plain) refl

plain_if : (v : Bool) (text : List ℕ) → commas text ≡ 0 → commas (if v then [] else text) ≡ 0
plain_if true text e = refl
plain_if false text e = e

how_plain : (how : How) → commas (how_text how) ≡ 0
how_plain hows.Balloon = refl
how_plain hows.Swap = refl
how_plain hows.Replaced = refl
how_plain hows.Dropped = refl
how_plain hows.First = refl
how_plain hows.Pop = refl
how_plain hows.SwapIn = refl
how_plain hows.Share = refl
how_plain hows.Host = refl
how_plain hows.Cow = refl
how_plain hows.Own = refl
how_plain hows.LentAway = refl
how_plain hows.TakenBack = refl
how_plain hows.DroppedOut = refl

level_plain : (level : Level) → commas (level_text level) ≡ 0
level_plain High = refl
level_plain Soft = refl
level_plain Hard = refl
level_plain Low = refl

spot_plain : (spot : Spot) → commas (spot_text spot) ≡ 0
spot_plain spots.Untouched = refl
spot_plain (spots.Here frame shared) = refl
spot_plain (spots.Out slot) = refl
spot_plain (spots.Lent since) = refl

-- no field has a comma
field_plain : (f : Field) → commas (field_text [] f) ≡ 0
field_plain fields.Empty = refl
field_plain (fields.Number n) = number_plain n
field_plain (fields.Fraction over under) = plain_if (under == 0) (thousandths_text (1000 * over / under)) (thousandths_plain (1000 * over / under))
field_plain (fields.Percent part whole) = plain_if (whole == 0) (percent_text (1000 * part / whole)) (percent_plain (1000 * part / whole))
field_plain (fields.Place place all) = place_plain place all
field_plain (fields.How how) = how_plain how
field_plain (fields.Level level) = level_plain level
field_plain (fields.Spot spot) = spot_plain spot

more_fields : (fs : List Field) → commas (flat_map (λ f. codes "," ++ field_text [] f) fs ++ codes "\n") ≡ length fs
more_fields [] = refl
more_fields (f ∷ fs) =
    let text = field_text [] f in
    let more = flat_map (λ g. codes "," ++ field_text [] g) fs in
    let cut : commas (((44 ∷ text) ++ more) ++ codes "\n") ≡ commas (44 ∷ text) + commas more + commas (codes "\n") =
    commas_both ((44 ∷ text) ++ more) (codes "\n") ∙ ap (λ n. n + commas (codes "\n")) (commas_both (44 ∷ text) more) in
    let rest : commas more + commas (codes "\n") ≡ length fs = sym (commas_both more (codes "\n")) ∙ more_fields fs in
    omega (arith, cut, rest, field_plain f)

row_fields : (f : Field) (fs : List Field) → commas (csv_row (f ∷ fs)) ≡ length fs
row_fields f fs =
    let both = commas_both (field_text [] f) (flat_map (λ g. codes "," ++ field_text [] g) fs ++ codes "\n") in
    omega (arith, both, field_plain f, more_fields fs)

-- a row has as many fields as were put into it
pub fields_of_row : (n : ℕ) (fs : List Field) → length fs ≡ n + 1 → field_count (csv_row fs) ≡ n + 1
fields_of_row n [] e = absurd (omega (arith, e))
fields_of_row n (f ∷ fs) e = omega (arith, row_fields f fs, e)
