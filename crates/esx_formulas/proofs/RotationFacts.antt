-- Rotations of words of 32 bits, and what is chosen by a word, bit by bit.
use Rattle.std.proofs.Common.{◌≡◌, ℕ, ◌+◌, ◌-◌, ◌*◌, ◌/◌, ◌%◌, ◌^◌, ◌<◌, ◌≤◌, min, max, bit_and, bit_or, bit_xor, arith, refl, sym, ap, ◌∙◌, inl, inr}
use Rattle.std.specs.Int.{w32, bit_at, bit_not, rotate_right}
use Rattle.std.proofs.lemmas.Bool.{cases_lt}
use Rattle.std.proofs.lemmas.Nat.{or_lt, xor_lt, shr-shr, and_le_l, pow_pos, shr_le}
use Rattle.std.proofs.lemmas.Nat.Bits.{bit_at_above, bit_at_and, bit_at_cat_high, bit_at_cat_low, bit_at_not, bit_at_or, bit_at_xor, bit_at-lt, bit_at-zero, same_from_bits_below}
use Rattle.sha2.specs.Sha256.{ch}

-- the bits that a word shifted up keeps
shifted_low : (x k i : ℕ) → i < 32 → i < k → bit_at (x * 2 ^ k % 2 ^ 32) i ≡ 0
shifted_low x k i within low =
    let whole : x * 2 ^ k ≡ x * 2 ^ k / 2 ^ 32 * 2 ^ 32 + x * 2 ^ k % 2 ^ 32 = omega arith in
    let none : x * 2 ^ k ≡ x * 2 ^ k + 0 = omega arith in
    sym (ap (λ (n : ℕ). bit_at n i) whole ∙ bit_at_cat_low (x * 2 ^ k / 2 ^ 32) 32 (x * 2 ^ k % 2 ^ 32) i within)
    ∙ ap (λ (n : ℕ). bit_at n i) none ∙ bit_at_cat_low x k 0 i low ∙ bit_at-zero i

shifted_high : (x k i : ℕ) → i < 32 → k ≤ i → bit_at (x * 2 ^ k % 2 ^ 32) i ≡ bit_at x (i - k)
shifted_high x k i within high =
    let whole : x * 2 ^ k ≡ x * 2 ^ k / 2 ^ 32 * 2 ^ 32 + x * 2 ^ k % 2 ^ 32 = omega arith in
    let none : x * 2 ^ k ≡ x * 2 ^ k + 0 = omega arith in
    sym (ap (λ (n : ℕ). bit_at n i) whole ∙ bit_at_cat_low (x * 2 ^ k / 2 ^ 32) 32 (x * 2 ^ k % 2 ^ 32) i within)
    ∙ ap (λ (n : ℕ). bit_at n i) none ∙ bit_at_cat_high x k 0 i (pow_pos k) high

shifts_is : (x k : ℕ) → 0 < k → k < 32 → rotate_right w32 x k ≡ bit_or (x / 2 ^ k) (x * 2 ^ (32 - k) % 2 ^ 32)
shifts_is x k low high =
    let right : k % 32 ≡ k = omega arith in
    let left : (32 - k) % 32 ≡ 32 - k = omega arith in
    rw (right, left) refl

-- bit i of a rotated word is the bit k places up, around the end
rotated_bit : (x k i : ℕ) → x < 2 ^ 32 → 0 < k → k < 32 → i < 32 → bit_at (rotate_right w32 x k) i ≡ bit_at x ((i + k) % 32)
rotated_bit x k i fits low high within =
    let down : bit_at (x / 2 ^ k) i ≡ bit_at x (k + i) = ap (λ (n : ℕ). n % 2) (shr-shr x k i) in
    let both : bit_at (rotate_right w32 x k) i ≡ max (bit_at (x / 2 ^ k) i) (bit_at (x * 2 ^ (32 - k) % 2 ^ 32) i) =
    ap (λ (n : ℕ). bit_at n i) (shifts_is x k low high) ∙ bit_at_or (x / 2 ^ k) (x * 2 ^ (32 - k) % 2 ^ 32) i in
    elim (cases_lt i (32 - k)) [
      | inl lt ↦
          let up : bit_at (x * 2 ^ (32 - k) % 2 ^ 32) i ≡ 0 = shifted_low x (32 - k) i within lt in
          let place : k + i ≡ (i + k) % 32 = omega arith in
          both ∙ omega (arith, down, up) ∙ ap (bit_at x) place
      | inr ge ↦
          let up : bit_at (x * 2 ^ (32 - k) % 2 ^ 32) i ≡ bit_at x (i - (32 - k)) = shifted_high x (32 - k) i within ge in
          let above : bit_at x (k + i) ≡ 0 = bit_at_above x 32 (k + i) fits (omega arith) in
          let place : i - (32 - k) ≡ (i + k) % 32 = omega arith in
          both ∙ omega (arith, down, up, above) ∙ ap (bit_at x) place
    ]

-- a rotated word is a word
rotated_fits : (x k : ℕ) → x < 2 ^ 32 → rotate_right w32 x k < 2 ^ 32
rotated_fits x k fits =
    let left : ℕ = x * 2 ^ ((32 - k % 32) % 32) % 2 ^ 32 in
    let within : left < 2 ^ 32 = omega arith in
    or_lt 32 (x / 2 ^ (k % 32)) left (omega (arith, shr_le x (k % 32))) within

-- two rotations by one that both begin with
pub shared_rotation : (x k s : ℕ) → x < 2 ^ 32 → 0 < k → 0 < s → k + s < 32
    → rotate_right w32 (bit_xor x (rotate_right w32 x s)) k ≡ bit_xor (rotate_right w32 x k) (rotate_right w32 x (k + s))
shared_rotation x k s fits low some high =
    let inner : rotate_right w32 x s < 2 ^ 32 = rotated_fits x s fits in
    let mixed : bit_xor x (rotate_right w32 x s) < 2 ^ 32 = xor_lt 32 x _ fits inner in
    same_from_bits_below 32 _ _ (rotated_fits _ k mixed) (xor_lt 32 _ _ (rotated_fits x k fits) (rotated_fits x (k + s) fits))
    (λ i within.
    let place : ((i + k) % 32 + s) % 32 ≡ (i + (k + s)) % 32 = omega arith in
    rotated_bit (bit_xor x (rotate_right w32 x s)) k i mixed low (omega arith) within
    ∙ bit_at_xor x (rotate_right w32 x s) ((i + k) % 32)
    ∙ ap (λ (b : ℕ). (bit_at x ((i + k) % 32) + b) % 2)
    (rotated_bit x s ((i + k) % 32) fits some (omega arith) (omega arith) ∙ ap (bit_at x) place ∙ sym (rotated_bit x (k + s) i fits (omega arith) high within))
    ∙ ap (λ (b : ℕ). (b + bit_at (rotate_right w32 x (k + s)) i) % 2) (sym (rotated_bit x k i fits low (omega arith) within))
    ∙ sym (bit_at_xor (rotate_right w32 x k) (rotate_right w32 x (k + s)) i))

chosen_bit : (a b c : ℕ) → a < 2 → b < 2 → c < 2 → (min a ((b + c) % 2) + c) % 2 ≡ (min a b + min (1 - a) c) % 2
chosen_bit a b c ha hb hc = omega arith

-- Ch of the standard with one operation less
pub chosen : (x y z : ℕ) → x < 2 ^ 32 → y < 2 ^ 32 → z < 2 ^ 32 → bit_xor (bit_and x (bit_xor y z)) z ≡ ch x y z
chosen x y z fx fy fz =
    let part : bit_and x (bit_xor y z) < 2 ^ 32 = omega (arith, and_le_l x (bit_xor y z)) in
    let one : bit_and x y < 2 ^ 32 = omega (arith, and_le_l x y) in
    let inverse : bit_not w32 x < 2 ^ 32 = omega arith in
    let other : bit_and (bit_not w32 x) z < 2 ^ 32 = omega (arith, and_le_l (bit_not w32 x) z) in
    same_from_bits_below 32 _ _ (xor_lt 32 _ _ part fz) (xor_lt 32 _ _ one other)
    (λ i within.
    let left : bit_at (bit_xor (bit_and x (bit_xor y z)) z) i ≡ (min (bit_at x i) ((bit_at y i + bit_at z i) % 2) + bit_at z i) % 2 =
    bit_at_xor (bit_and x (bit_xor y z)) z i
    ∙ ap (λ (b : ℕ). (b + bit_at z i) % 2) (bit_at_and x (bit_xor y z) i ∙ ap (min (bit_at x i)) (bit_at_xor y z i)) in
    let right : bit_at (ch x y z) i ≡ (min (bit_at x i) (bit_at y i) + min (1 - bit_at x i) (bit_at z i)) % 2 =
    bit_at_xor (bit_and x y) (bit_and (bit_not w32 x) z) i
    ∙ ap (λ (b : ℕ). (b + bit_at (bit_and (bit_not w32 x) z) i) % 2) (bit_at_and x y i)
    ∙ ap (λ (b : ℕ). (min (bit_at x i) (bit_at y i) + b) % 2)
    (bit_at_and (bit_not w32 x) z i ∙ ap (λ (b : ℕ). min b (bit_at z i)) (bit_at_not w32 x i fx within)) in
    left ∙ chosen_bit (bit_at x i) (bit_at y i) (bit_at z i) (bit_at-lt x i) (bit_at-lt y i) (bit_at-lt z i) ∙ sym right)
