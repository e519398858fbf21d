-- Words in the four lanes of a vector.
use Rattle.std.proofs.Common.{◌≡◌, ℕ, zero, suc, ◌+◌, ◌-◌, ◌*◌, ◌/◌, ◌%◌, ◌^◌, ◌<◌, ◌≤◌, List, [], ◌∷◌, length, drop, slice_index, slice_set, bit_or, arith, refl, sym, ap, ◌∙◌, inl, inr}
use Rattle.std.specs.Simd.Lanes.{zip2}
use Rattle.std.specs.Int.{w32, rotate_right}
use Rattle.std.proofs.lemmas.List.{get_or-take, get_or-drop, get_or-set_same, get_or-set_other}
use Rattle.std.proofs.lemmas.Bool.{cases_lt}
use Rattle.sha2.specs.Sha256.{add32, round_constants, schedule, word_at}
use Rattle.sha2.proofs.Schedule256.{slice_index-schedule_first, slice_index-schedule_next}
use Rattle.esx_formulas.specs.Lanes.{block, lane_at, next_in_lane, AreWords, AreSums, IsLane}

-- what holds of each of the four lanes
pub below_four : (P : ℕ → Type 0) → P 0 → P 1 → P 2 → P 3 → (j : ℕ) → j < 4 → P j
below_four P p0 p1 p2 p3 zero h = p0
below_four P p0 p1 p2 p3 (suc zero) h = p1
below_four P p0 p1 p2 p3 (suc (suc zero)) h = p2
below_four P p0 p1 p2 p3 (suc (suc (suc zero))) h = p3
below_four P p0 p1 p2 p3 (suc (suc (suc (suc n)))) h = absurd (omega arith)

-- what holds of each list of four elements
four_lanes : (P : List ℕ → Type 0) → ((a b c d : ℕ) → P (a ∷ b ∷ c ∷ d ∷ [])) → (xs : List ℕ) → length xs ≡ 4 → P xs
four_lanes P p (a ∷ b ∷ c ∷ d ∷ []) h = p a b c d
four_lanes P p [] h = absurd (omega arith)
four_lanes P p (a ∷ []) h = absurd (omega arith)
four_lanes P p (a ∷ b ∷ []) h = absurd (omega arith)
four_lanes P p (a ∷ b ∷ c ∷ []) h = absurd (omega arith)
four_lanes P p (a ∷ b ∷ c ∷ d ∷ e ∷ xs) h = absurd (omega arith)

pub splat_at : (x j : ℕ) → j < 4 → slice_index (x ∷ x ∷ x ∷ x ∷ []) j ≡ x
splat_at x = below_four _ refl refl refl refl

-- two shifts of each lane and an or are a rotation
abbrev Rotates : ℕ → List ℕ → Type 0
Rotates k x = (j : ℕ) → j < 4
    → slice_index (zip2 bit_or
    (zip2 (λ a n. a / 2 ^ n) x (k ∷ k ∷ k ∷ k ∷ []))
    (zip2 (λ a n. a * 2 ^ n % 2 ^ 32) x ((32 - k) ∷ (32 - k) ∷ (32 - k) ∷ (32 - k) ∷ []))) j
    ≡ rotate_right w32 (slice_index x j) k

pub shifts_rotate : (k : ℕ) → 0 < k → k < 32 → (x : List ℕ) → length x ≡ 4 → Rotates k x
shifts_rotate k low high =
    let right : k % 32 ≡ k = omega arith in
    let left : (32 - k) % 32 ≡ 32 - k = omega arith in
    four_lanes (Rotates k) (λ a b c d.
    below_four _ (rw (right, left) refl) (rw (right, left) refl) (rw (right, left) refl) (rw (right, left) refl))

pub shift_of_lanes : (k : ℕ) (x : List ℕ) → length x ≡ 4 → (j : ℕ) → j < 4 → slice_index (zip2 (λ a n. a / 2 ^ n) x (k ∷ k ∷ k ∷ k ∷ [])) j ≡ slice_index x j / 2 ^ k
shift_of_lanes k = four_lanes _ (λ a b c d. below_four _ refl refl refl refl)

byte_of_block : (p : List ℕ) (j i n : ℕ) → i < 64 → n ≡ j * 64 + i → slice_index (block p j) i ≡ slice_index p n
byte_of_block p j i n h e = get_or-take 64 (drop (j * 64) p) i 0 h ∙ get_or-drop (j * 64) p i 0 ∙ ap (λ (k : ℕ). slice_index p k) (sym e)

-- a word of a block, as a word of the message
pub word_of_block : (p : List ℕ) (j at n : ℕ) → at + 4 ≤ 64 → n ≡ j * 64 + at → word_at p n ≡ word_at (block p j) at
word_of_block p j at n h e =
    let b0 : slice_index (block p j) at ≡ slice_index p n = byte_of_block p j at n (omega arith) e in
    let b1 : slice_index (block p j) (at + 1) ≡ slice_index p (n + 1) = byte_of_block p j (at + 1) (n + 1) (omega arith) (omega arith) in
    let b2 : slice_index (block p j) (at + 2) ≡ slice_index p (n + 2) = byte_of_block p j (at + 2) (n + 2) (omega arith) (omega arith) in
    let b3 : slice_index (block p j) (at + 3) ≡ slice_index p (n + 3) = byte_of_block p j (at + 3) (n + 3) (omega arith) (omega arith) in
    rw (b0, b1, b2, b3) refl

-- one more vector of words
pub AreWords_more : (w : List (List ℕ)) (x : List ℕ) (j t : ℕ) (ws : List ℕ) → t < length w → AreWords w j ws t → slice_index x j ≡ slice_index ws t → AreWords (slice_set w t x) j ws (t + 1)
AreWords_more w x j t ws fits held next s h = elim (cases_lt s t) [
  | inl lt ↦ ap (λ (v : List ℕ). slice_index v j) (get_or-set_other w t s x [] (omega arith)) ∙ held s lt
  | inr ge ↦
      let e : s ≡ t = omega arith in
      rw e (ap (λ (v : List ℕ). slice_index v j) (get_or-set_same w t x [] fits) ∙ next)
]

-- the next words in the lanes are those of the schedule
pub next_word_is : (w : List (List ℕ)) (b : List ℕ) (j t : ℕ) → 16 ≤ t → t < 64 → AreWords w j (schedule b 48) t → next_in_lane w t j ≡ slice_index (schedule b 48) t
next_word_is w b j t low high held =
    let ws : List ℕ = schedule b 48 in
    let w2 : lane_at w (t - 2) j ≡ slice_index ws (t - 2) = held (t - 2) (omega arith) in
    let w7 : lane_at w (t - 7) j ≡ slice_index ws (t - 7) = held (t - 7) (omega arith) in
    let w15 : lane_at w (t - 15) j ≡ slice_index ws (t - 15) = held (t - 15) (omega arith) in
    let w16 : lane_at w (t - 16) j ≡ slice_index ws (t - 16) = held (t - 16) (omega arith) in
    rw (w2, w7, w15, w16) (sym (slice_index-schedule_next b 48 t low (omega arith)))

-- one more vector of sums
pub AreSums_more : (sums : List (List ℕ)) (x : List ℕ) (j t : ℕ) (ws : List ℕ) → t < length sums → AreSums sums j ws t
    → slice_index x j ≡ add32 (slice_index ws t) (slice_index round_constants t) → AreSums (slice_set sums t x) j ws (t + 1)
AreSums_more sums x j t ws fits held next s h = elim (cases_lt s t) [
  | inl lt ↦ ap (λ (v : List ℕ). slice_index v j) (get_or-set_other sums t s x [] (omega arith)) ∙ held s lt
  | inr ge ↦
      let e : s ≡ t = omega arith in
      rw e (ap (λ (v : List ℕ). slice_index v j) (get_or-set_same sums t x [] fits) ∙ next)
]

-- a lane of words with their constant added
pub sum_in_lane : (words : List ℕ) (j t k : ℕ) (ws : List ℕ) → j < 4 → slice_index words j ≡ slice_index ws t → k ≡ slice_index round_constants t
    → add32 (slice_index words j) (slice_index (k ∷ k ∷ k ∷ k ∷ []) j) ≡ add32 (slice_index ws t) (slice_index round_constants t)
sum_in_lane words j t k ws low same e = rw (splat_at k j low, same, e) refl

-- the first words are those of the block
pub first_word_is : (b : List ℕ) (t x : ℕ) → t < 16 → x ≡ word_at b (4 * t) → x ≡ slice_index (schedule b 48) t
first_word_is b t x low e = e ∙ sym (slice_index-schedule_first b 48 t low)

pub IsLane_at : (w sums : List (List ℕ)) (j : ℕ) (ws : List ℕ) (n k : ℕ) → n ≡ k → IsLane w sums j ws n → IsLane w sums j ws k
IsLane_at w sums j ws n k e held = rw (← e) held
