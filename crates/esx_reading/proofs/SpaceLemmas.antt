-- Spaces in the lanes of a vector.
use Rattle.std.proofs.Common.{◌≡◌, ◌%◌, ◌<◌, ◌≤◌, ◌^◌, ℕ, Bool, true, false, not, cond, List, map, take, length, get_or, replicate, refl, ap, sym, subst, ◌∙◌, arith}
use Rattle.std.proofs.Math.Dec.{eqb}
use Rattle.std.proofs.lemmas.Bool.{eqb-true, eq-eqb}
use Rattle.std.proofs.lemmas.List.{get_or-take, length-take-le, length-map}
use Rattle.std.proofs.lemmas.List.Elements.{All-from_get_or}
use Rattle.std.proofs.lemmas.List.Sums.{prefix_len-le-length, prefix_len_passes, prefix_len_stops}
use Rattle.std.proofs.lemmas.Simd.{zip2_splat, map-map, mask_l-mod, leading_from_mask_l, trailing_mask_l}
use Rattle.std.specs.List.{prefix_len}
use lib.Count.{count_trailing_zeros}
use lib.Lanes.{zip2, mask_l, top}
use Rattle.esx_reading.specs.Fields.{HasNoSpace}

-- whether a lane is a space, as the mask tells it
abbrev is_space : ℕ → Bool
is_space b = top 7 (cond (eqb b 32) 255 0)

abbrev other : ℕ → Bool
other b = not (is_space b)

no_space_by : (t : Bool) (b : ℕ) → eqb b 32 ≡ t → not (top 7 (cond t 255 0)) ≡ true → b ≡ 32 → ⊥
no_space_by true b e passed same = absurd (cc)
no_space_by false b e passed same = let is = eq-eqb b 32 same in absurd (cc)

space_by : (t : Bool) (b : ℕ) → eqb b 32 ≡ t → not (top 7 (cond t 255 0)) ≡ false → b ≡ 32
space_by true b e stopped = eqb-true b 32 e
space_by false b e stopped = absurd (cc)

none_before : (bytes : List ℕ) → HasNoSpace (take (prefix_len other bytes) bytes)
none_before bytes =
    let count = prefix_len other bytes in
    let long = length-take-le count bytes (prefix_len-le-length other bytes) in
    All-from_get_or (λ b. b ≡ 32 → ⊥) (take count bytes) 0 (λ i lt.
    let within : i < count = omega (arith, lt, long) in
    subst (λ b. b ≡ 32 → ⊥) (sym (get_or-take count bytes i 0 within)) (no_space_by (eqb (get_or bytes i 0) 32) (get_or bytes i 0) refl (prefix_len_passes other bytes i 0 within)))

pub mask_is : (bytes : List ℕ) → length bytes ≡ 16 → mask_l (map (top 7) (zip2 (λ a b. cond (eqb a b) 255 0) bytes (replicate 16 32))) % 2 ^ 64 ≡ mask_l (map is_space bytes)
mask_is bytes long =
    ap (λ l. mask_l l % 2 ^ 64) (ap (map (top 7)) (zip2_splat (λ a b. cond (eqb a b) 255 0) bytes 16 32 long) ∙ map-map (top 7) (λ b. cond (eqb b 32) 255 0) bytes)
    ∙ mask_l-mod (map is_space bytes) 64 (omega (arith, length-map bytes is_space, long))

pub no_space : (bytes : List ℕ) (m : ℕ) → length bytes ≡ 16 → m ≡ mask_l (map is_space bytes) → m ≡ 0 → HasNoSpace (take 16 bytes)
no_space bytes m long mask none = subst (λ k. HasNoSpace (take k bytes)) (leading_from_mask_l is_space bytes (sym mask ∙ none) ∙ long) (none_before bytes)

pub some_space : (bytes : List ℕ) (m : ℕ) → length bytes ≡ 16 → m ≡ mask_l (map is_space bytes) → (m ≡ 0 → ⊥)
    → (count_trailing_zeros 64 m ≤ 16) × HasNoSpace (take (count_trailing_zeros 64 m) bytes)
    × (count_trailing_zeros 64 m < 16 → get_or bytes (count_trailing_zeros 64 m) 0 ≡ 32)
some_space bytes m long mask some =
    let count = prefix_len other bytes in
    let is : count ≡ count_trailing_zeros 64 m = sym (ap (count_trailing_zeros 64) mask ∙ trailing_mask_l is_space 64 bytes (omega (arith, long)) (omega (arith, mask, some))) in
    let within : count ≤ 16 = omega (arith, prefix_len-le-length other bytes, long) in (
      subst (λ k. k ≤ 16) is within,
      subst (λ k. HasNoSpace (take k bytes)) is (none_before bytes),
      subst (λ k. k < 16 → get_or bytes k 0 ≡ 32) is
          (λ lt. space_by (eqb (get_or bytes count 0) 32) (get_or bytes count 0) refl (prefix_len_stops other bytes 0 (omega (arith, lt, long)))),
    )
