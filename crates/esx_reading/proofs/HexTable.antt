-- The tables of digits in hex.
use Rattle.std.proofs.Common.{◌≡◌, ◌<◌, ◌≤◌, ◌+◌, ◌/◌, ◌%◌, ℕ, zero, suc, List, [], ◌∷◌, Bool, true, false, nat_lt, length, get_or, slice_index, refl, ap, ◌∙◌, subst, sym, arith}
use Rattle.std.specs.Prelude.{◌&&◌, if◌then◌else◌}
use Rattle.std.proofs.Math.Dec.{eqb}
use Rattle.std.proofs.lemmas.Bool.{eqb-true, and_parts}
use Rattle.std.proofs.lemmas.Bool.Decides.{nat_tests}
use Rattle.hex.specs.Hex.{lower_digits}
use Rattle.esx_reading.specs.declared.written.TheConstants.{HIGH, LOW}

-- what a byte is worth as the first of two digits, or no digit
abbrev is_high : ℕ → ℕ → Bool
is_high c v = if nat_lt v 256 then eqb (v % 16) 0 && eqb c (slice_index lower_digits (v / 16)) else eqb v 256

-- what it is worth as the second
abbrev is_low : ℕ → ℕ → Bool
is_low c v = if nat_lt v 256 then nat_lt v 16 && eqb c (slice_index lower_digits v) else eqb v 256

abbrev fit : (ℕ → ℕ → Bool) → ℕ → List ℕ → Bool
fit test c [] = true
fit test c (v ∷ vs) = test c v && fit test (suc c) vs

fit_at : (test : ℕ → ℕ → Bool) (c : ℕ) (vs : List ℕ) (i : ℕ) → fit test c vs ≡ true → i < length vs → test (c + i) (get_or vs i 0) ≡ true
fit_at test c [] i t lt = absurd (omega (arith, lt))
fit_at test c (v ∷ vs) zero t lt = let same : c + 0 ≡ c = omega arith in ap (λ n. test n v) same ∙ (and_parts _ _ t).0
fit_at test c (v ∷ vs) (suc i) t lt =
    let next : c + suc i ≡ suc c + i = omega arith in ap (λ n. test n (get_or vs i 0)) next ∙ fit_at test (suc c) vs i (and_parts _ _ t).1 (omega (arith, lt))

-- each digit is worth something
abbrev are_known : List ℕ → List ℕ → Bool
are_known table [] = true
are_known table (d ∷ ds) = nat_lt (get_or table d 0) 256 && are_known table ds

known_at : (table digits : List ℕ) (v : ℕ) → are_known table digits ≡ true → v < length digits → get_or table (slice_index digits v) 0 < 256
known_at table [] v t lt = absurd (omega (arith, lt))
known_at table (d ∷ ds) zero t lt = let b = (and_parts (nat_lt (get_or table d 0) 256) (are_known table ds) t).0 in grind (arith, nat_tests)
known_at table (d ∷ ds) (suc v) t lt = known_at table ds v (and_parts _ _ t).1 (omega (arith, lt))

high_fits : fit is_high 0 HIGH ≡ true
high_fits = refl

low_fits : fit is_low 0 LOW ≡ true
low_fits = refl

high_known : are_known HIGH lower_digits ≡ true
high_known = refl

low_known : are_known LOW lower_digits ≡ true
low_known = refl

by_high : (c v : ℕ) (b : Bool) → nat_lt v 256 ≡ b → (if b then eqb (v % 16) 0 && eqb c (slice_index lower_digits (v / 16)) else eqb v 256) ≡ true
    → (v ≤ 256) × (v < 256 → (v % 16 ≡ 0) × (c ≡ slice_index lower_digits (v / 16)))
by_high c v true e t = (grind (arith, nat_tests), λ small. (eqb-true (v % 16) 0 (and_parts _ _ t).0, eqb-true c (slice_index lower_digits (v / 16)) (and_parts _ _ t).1))
by_high c v false e t = let is = eqb-true v 256 t in (omega (arith, is), λ small. absurd (omega (arith, is, small)))

by_low : (c v : ℕ) (b : Bool) → nat_lt v 256 ≡ b → (if b then nat_lt v 16 && eqb c (slice_index lower_digits v) else eqb v 256) ≡ true
    → (v ≤ 256) × (v < 256 → (v < 16) × (c ≡ slice_index lower_digits v))
by_low c v true e t = let few = and_parts (nat_lt v 16) (eqb c (slice_index lower_digits v)) t in let first = few.0 in (grind (arith, nat_tests), λ small. (grind (arith, nat_tests), eqb-true c (slice_index lower_digits v) few.1))
by_low c v false e t = let is = eqb-true v 256 t in (omega (arith, is), λ small. absurd (omega (arith, is, small)))

pub high_read : (c : ℕ) → c < 256 → (get_or HIGH c 0 ≤ 256) × (get_or HIGH c 0 < 256 → (get_or HIGH c 0 % 16 ≡ 0) × (c ≡ slice_index lower_digits (get_or HIGH c 0 / 16)))
high_read c within = by_high c (get_or HIGH c 0) (nat_lt (get_or HIGH c 0) 256) refl (let same : 0 + c ≡ c = omega arith in ap (λ n. is_high n (get_or HIGH c 0)) (sym same) ∙ fit_at is_high 0 HIGH c high_fits within)

pub low_read : (c : ℕ) → c < 256 → (get_or LOW c 0 ≤ 256) × (get_or LOW c 0 < 256 → (get_or LOW c 0 < 16) × (c ≡ slice_index lower_digits (get_or LOW c 0)))
low_read c within = by_low c (get_or LOW c 0) (nat_lt (get_or LOW c 0) 256) refl (let same : 0 + c ≡ c = omega arith in ap (λ n. is_low n (get_or LOW c 0)) (sym same) ∙ fit_at is_low 0 LOW c low_fits within)

pub high_of_digit : (c v : ℕ) → v < 16 → c ≡ slice_index lower_digits v → get_or HIGH c 0 < 256
high_of_digit c v small e = subst (λ n. get_or HIGH n 0 < 256) (sym e) (known_at HIGH lower_digits v high_known small)

pub low_of_digit : (c v : ℕ) → v < 16 → c ≡ slice_index lower_digits v → get_or LOW c 0 < 256
low_of_digit c v small e = subst (λ n. get_or LOW n 0 < 256) (sym e) (known_at LOW lower_digits v low_known small)

below_none : (h : ℕ) (b : Bool) → nat_lt h 256 ≡ b → h ≤ 256 → (h ≡ 256 → ⊥) → h < 256
below_none h true e a other = grind (arith, nat_tests)
below_none h false e a other = let full : 256 ≤ h = grind (arith, nat_tests) in absurd (other (omega (arith, full, a)))

-- two digits are worth less than what stands for none
pub two_digits : (h l : ℕ) → h ≤ 256 → l ≤ 256 → (h < 256 → h % 16 ≡ 0) → (l < 256 → l < 16) → (h ≡ 256 → ⊥) → (l ≡ 256 → ⊥) → h + l < 256
two_digits h l a b f g no_h no_l =
    let hs = below_none h (nat_lt h 256) refl a no_h in
    let ls = below_none l (nat_lt l 256) refl b no_l in
    omega (arith, hs, f hs, g ls)
