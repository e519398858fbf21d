-- Digits in hex in the lanes of a vector.
use Rattle.std.proofs.Common.{replicate, ◌-◌, lit<, ◌≡◌, ◌+◌, ◌*◌, ◌/◌, ◌%◌, ◌<◌, ◌^◌, ℕ, zero, suc, Bool, true, false, cond, ltb, ltb-true, ltb-false, List, [], ◌∷◌, map, length, slice_index, refl, ap, sym, subst, ◌∙◌, arith}
use Rattle.std.specs.Prelude.{nat_lt, if◌then◌else◌}
use Rattle.std.proofs.Math.Dec.{eqb}
use Rattle.std.proofs.lemmas.Bool.{agree_below_at, eqb-true}
use Rattle.std.proofs.lemmas.List.{length-map}
use Rattle.std.proofs.lemmas.Simd.{length-zip2, mask_l-mod}
use Rattle.hex.specs.Hex.{encode_lower, encode_with, lower_digits, IsBytes}
use Rattle.esx_reading.specs.Written.{IsDigitValue}
use mir.Syntax.{w8}
use mir.Val.{Fits}
use lib.Lanes.{zip2, Each1, Each2, mask_l, sel_l, top, number_l, digits_l}

-- the lane of a byte
abbrev pub less : ℕ → ℕ → ℕ
less a b = (a + (256 - b)) % 256

abbrev pub plus : ℕ → ℕ → ℕ
plus a b = (a + b) % 256

abbrev pub below : ℕ → ℕ → ℕ
below a b = cond (ltb a b) 255 0

abbrev pub least : List ℕ → List ℕ → List ℕ
least xs ys = sel_l (map (top 7) (zip2 below xs ys)) xs ys

abbrev pub values : ℕ → List ℕ → List ℕ
values n bs =
    let digits = zip2 less bs (replicate n 48) in
    sel_l (map (top 7) (zip2 below digits (replicate n 10))) digits (zip2 plus (least (zip2 less bs (replicate n 97)) (replicate n 245)) (replicate n 10))

abbrev lane : ℕ → ℕ
lane b = cond (top 7 (below (less b 48) 10)) (less b 48) (plus (cond (top 7 (below (less b 97) 245)) (less b 97) 245) 10)

abbrev is_right : ℕ → Bool
is_right b = if nat_lt (lane b) 16 then eqb b (slice_index lower_digits (lane b)) else true

all_right : (b : ℕ) → b < 256 → is_right b ≡ true
all_right b small = agree_below_at is_right (λ _. true) 256 b refl small

digits_read : (v : ℕ) → v < 16 → eqb (lane (slice_index lower_digits v)) v ≡ true
digits_read v small = agree_below_at (λ w. eqb (lane (slice_index lower_digits w)) w) (λ _. true) 16 v refl small

by_right : (b v : ℕ) (t : Bool) → nat_lt v 16 ≡ t → (if t then eqb b (slice_index lower_digits v) else true) ≡ true → v < 16 → b ≡ slice_index lower_digits v
by_right b v true e right small = eqb-true b (slice_index lower_digits v) right
by_right b v false e right small = absurd (omega (arith, ltb-false v 16 e))

lane_is : (b : ℕ) → b < 256 → IsDigitValue b (lane b)
lane_is b fits = record {
  some = by_right b (lane b) (nat_lt (lane b) 16) refl (all_right b fits);
  only = λ v small e. ap lane e ∙ eqb-true (lane (slice_index lower_digits v)) v (digits_read v small);
}

pub values_are : (n : ℕ) (bs : List ℕ) → length bs ≡ n → Each1 (Fits w8) bs → Each2 IsDigitValue bs (values n bs)
values_are n [] long fits = tt
values_are zero (b ∷ bs) long fits = absurd (omega (arith, long))
values_are (suc n) (b ∷ bs) long fits = (lane_is b (omega (arith, fits.0.fits)), values_are n bs (omega (arith, long)) fits.1)

pub length_values : (n : ℕ) (bs : List ℕ) → length bs ≡ n → length (values n bs) ≡ n
length_values zero [] long = refl
length_values (suc n) [] long = absurd (omega (arith, long))
length_values zero (b ∷ bs) long = absurd (omega (arith, long))
length_values (suc n) (b ∷ bs) long = ap suc (length_values n bs (omega (arith, long)))

-- whether a lane is above 15, as the mask tells it
abbrev bit : Bool → ℕ
bit t = cond (top 7 (cond t 255 0)) 1 0

of_lane : (v : ℕ) (t : Bool) → ltb 15 v ≡ t → (v < 16 → bit t ≡ 0) × (bit t ≡ 0 → v < 16)
of_lane v true e = (λ small. absurd (omega (arith, ltb-true 15 v e, small)), λ none. absurd (omega (arith, none)))
of_lane v false e = (λ small. refl, λ none. omega (arith, ltb-false 15 v e))

abbrev mask : ℕ → List ℕ → ℕ
mask n vs = mask_l (map (top 7) (zip2 below (replicate n 15) vs))

no_mask : (n : ℕ) (vs : List ℕ) → length vs ≡ n → Each1 (λ v. v < 16) vs → mask n vs ≡ 0
no_mask zero vs long small = refl
no_mask (suc n) [] long small = refl
no_mask (suc n) (v ∷ vs) long small =
    let here = (of_lane v (ltb 15 v) refl).0 small.0 in
    let on = no_mask n vs (omega (arith, long)) small.1 in
    omega (arith, here, on)

small_lanes : (n : ℕ) (vs : List ℕ) → length vs ≡ n → mask n vs ≡ 0 → Each1 (λ v. v < 16) vs
small_lanes n [] long none = tt
small_lanes zero (v ∷ vs) long none = absurd (omega (arith, long))
small_lanes (suc n) (v ∷ vs) long none =
    ((of_lane v (ltb 15 v) refl).1 (omega (arith, none)), small_lanes n vs (omega (arith, long)) (omega (arith, none)))

abbrev pub told : List ℕ → ℕ
told vs = mask 16 vs % 2 ^ 64

mask_is : (vs : List ℕ) → length vs ≡ 16 → told vs ≡ mask 16 vs
mask_is vs long =
    let lanes : List Bool = map (top 7) (zip2 below (replicate 16 15) vs) in
    mask_l-mod lanes 64 (omega (arith, length-map (zip2 below (replicate 16 15) vs) (top 7), length-zip2 below (replicate 16 15) vs (sym long)))

-- a lane that is no digit stands in the way of all bytes
no_digit : (bytes vs : List ℕ) → length vs ≡ length (encode_lower bytes) → IsBytes bytes → Each2 IsDigitValue (encode_lower bytes) vs → Each1 (λ v. v < 16) vs
unfolding encode_with
no_digit bytes [] long are each = tt
no_digit [] (v ∷ vs) long are each = absurd (omega (arith, long))
no_digit (b ∷ bytes) (v ∷ []) long are each = absurd (omega (arith, long))
no_digit (b ∷ bytes) (v ∷ w ∷ vs) long are each =
    let fits : b < 256 = are 0 in
    let high = each.0.only (b / 16) (omega (arith, fits)) refl in
    let low = each.1.0.only (b % 16) (omega arith) refl in
    (omega (arith, high, fits), (omega (arith, low), no_digit bytes vs (omega (arith, long)) (λ i. are (suc i)) each.1.1))

pub no_bytes : (ds vs bytes : List ℕ) → length ds ≡ 16 → length vs ≡ 16 → Each2 IsDigitValue ds vs → (told vs ≡ 0 → ⊥) → IsBytes bytes → encode_lower bytes ≡ ds → ⊥
no_bytes ds vs bytes long lanes each some are e =
    let small = no_digit bytes vs (lanes ∙ sym long ∙ ap length (sym e)) are (subst (λ l. Each2 IsDigitValue l vs) (sym e) each) in
    some (mask_is vs lanes ∙ no_mask 16 vs lanes small)

-- sixteen times each even lane and the lane behind it
abbrev pub joined : ℕ → ℕ
joined z = z * 4097 % 65536 / 256

abbrev pub pairs_of : List ℕ → List ℕ
pairs_of [] = []
pairs_of (x ∷ []) = []
pairs_of (x ∷ y ∷ vs) = (x * 16 + y) ∷ pairs_of vs

in_pairs : (n : ℕ) (vs : List ℕ) → length vs ≡ n + n → Each1 (λ v. v < 16) vs → map joined (digits_l 65536 n (number_l 256 vs)) ≡ pairs_of vs
in_pairs zero [] long small = refl
in_pairs zero (x ∷ vs) long small = absurd (omega (arith, long))
in_pairs (suc n) [] long small = absurd (omega (arith, long))
in_pairs (suc n) (x ∷ []) long small = absurd (omega (arith, long))
in_pairs (suc n) (x ∷ y ∷ vs) long small =
    let rest = number_l 256 vs in
    let low : (x + 256 * (y + 256 * rest)) % 65536 ≡ x + 256 * y = omega (arith, small.0, small.1.0) in
    let high : (x + 256 * (y + 256 * rest)) / 65536 ≡ rest = omega (arith, small.0, small.1.0) in
    let pair : joined (x + 256 * y) ≡ x * 16 + y = omega (arith, small.0, small.1.0) in
    (λ i. joined (low i) ∷ map joined (digits_l 65536 n (high i))) ∙ ap (λ p. p ∷ map joined (digits_l 65536 n rest)) pair
    ∙ ap (λ l. (x * 16 + y) ∷ l) (in_pairs n vs (omega (arith, long)) small.1.1)

-- the pairs are bytes, and the digits are theirs
are_bytes : (vs : List ℕ) → Each1 (λ v. v < 16) vs → (i : ℕ) → slice_index (pairs_of vs) i < 256
are_bytes [] small i = lit< tt
are_bytes (x ∷ []) small i = lit< tt
are_bytes (x ∷ y ∷ vs) small zero = omega (arith, small.0, small.1.0)
are_bytes (x ∷ y ∷ vs) small (suc i) = are_bytes vs small.1.1 i

are_theirs : (n : ℕ) (ds vs : List ℕ) → length ds ≡ n + n → length vs ≡ n + n → Each2 IsDigitValue ds vs → Each1 (λ v. v < 16) vs → encode_lower (pairs_of vs) ≡ ds
unfolding encode_with
are_theirs zero [] [] long lanes each small = refl
are_theirs zero (d ∷ ds) vs long lanes each small = absurd (omega (arith, long))
are_theirs zero [] (v ∷ vs) long lanes each small = absurd (omega (arith, lanes))
are_theirs (suc n) [] vs long lanes each small = absurd (omega (arith, long))
are_theirs (suc n) (d ∷ []) vs long lanes each small = absurd (omega (arith, long))
are_theirs (suc n) (d ∷ e ∷ ds) [] long lanes each small = absurd (omega (arith, lanes))
are_theirs (suc n) (d ∷ e ∷ ds) (x ∷ []) long lanes each small = absurd (omega (arith, lanes))
are_theirs (suc n) (d ∷ e ∷ ds) (x ∷ y ∷ vs) long lanes each small =
    let first : (x * 16 + y) / 16 ≡ x = omega (arith, small.1.0) in
    let second : (x * 16 + y) % 16 ≡ y = omega (arith, small.1.0) in
    rw (first, second, ← each.0.some small.0, ← each.1.0.some small.1.0, are_theirs n ds vs (omega (arith, long)) (omega (arith, lanes)) each.1.1 small.1.1) refl

pub eight_are : (ds vs : List ℕ) → length ds ≡ 16 → length vs ≡ 16 → Each2 IsDigitValue ds vs → told vs ≡ 0
    → IsBytes (map joined (digits_l 65536 8 (number_l 256 vs))) × (encode_lower (map joined (digits_l 65536 8 (number_l 256 vs))) ≡ ds)
eight_are ds vs long lanes each none =
    let small = small_lanes 16 vs lanes (sym (mask_is vs lanes) ∙ none) in
    subst (λ l. IsBytes l × (encode_lower l ≡ ds)) (sym (in_pairs 8 vs lanes small)) (are_bytes vs small, are_theirs 8 ds vs long lanes each small)
