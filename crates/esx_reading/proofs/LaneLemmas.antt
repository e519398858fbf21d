-- Digits in the lanes of a vector.
use Rattle.std.proofs.Common.{replicate, ◌-◌, not, take, lit<, ◌≡◌, ◌+◌, ◌*◌, ◌/◌, ◌%◌, ◌<◌, ◌≤◌, ◌^◌, ℕ, zero, suc, Bool, true, false, cond, ltb, ltb-false, List, [], ◌∷◌, map, length, get_or, refl, ap, sym, subst, ◌∙◌, arith, pow-suc, div-lt_iff_lt-mul, div-add-mod'}
use Rattle.std.specs.Char.{digit_value}
use Rattle.std.specs.Int.Digits.{number_from_digits, number_from_digits_after}
use Rattle.std.specs.Str.Parse.{AllDigits, digits_value, digits_value_after}
use Rattle.std.proofs.lemmas.Str.{digit_value_digit}
use Rattle.std.proofs.lemmas.List.{get_or-take, length-take-le, length-map, take-map, take-take}
use Rattle.std.proofs.lemmas.List.Sums.{prefix_len-le-length, prefix_len_passes}
use Rattle.std.proofs.lemmas.Simd.{Each1-from_get_or, zip2_splat_left, map-map, mask_l-mod, leading_from_mask_l, trailing_mask_l}
use Rattle.std.specs.List.{prefix_len}
use lib.Count.{count_trailing_zeros}
use lib.Lanes.{zip2, Each1, mask_l, top, number_l, digits_l}

-- whether a lane is above 9, as the mask tells it
abbrev pub stops : ℕ → Bool
stops y = top 7 (cond (ltb 9 y) 255 0)

at_most_nine : (b : Bool) (y : ℕ) → ltb 9 y ≡ b → not (top 7 (cond b 255 0)) ≡ true → y < 10
at_most_nine true y e t = absurd (cc)
at_most_nine false y e t = omega (arith, ltb-false 9 y e)

pub front_at_most_nine : (xs : List ℕ) → Each1 (λ d. d < 10) (take (prefix_len (λ y. not (stops y)) xs) xs)
front_at_most_nine xs =
    let count = prefix_len (λ y. not (stops y)) xs in
    let long = length-take-le count xs (prefix_len-le-length (λ y. not (stops y)) xs) in
    Each1-from_get_or (λ d. d < 10) (take count xs) 0 (λ i lt.
    let within : i < count = omega (arith, lt, long) in
    subst (λ d. d < 10) (sym (get_or-take count xs i 0 within)) (at_most_nine (ltb 9 (get_or xs i 0)) (get_or xs i 0) refl (prefix_len_passes (λ y. not (stops y)) xs i 0 within)))

-- the value of a byte as a digit
abbrev pub less_zero : ℕ → ℕ
less_zero b = (b + 208) % 256

pub bytes_are : (n : ℕ) (bytes : List ℕ) → Each1 (λ b. b < 256) bytes → Each1 (λ d. d < 10) (map less_zero bytes)
    → AllDigits 10 bytes × (number_from_digits_after 10 n (map less_zero bytes) ≡ digits_value_after 10 n bytes)
bytes_are n [] fits small = (tt, refl)
bytes_are n (b ∷ bytes) fits small =
    let low : 48 ≤ b = omega (arith, fits.0, small.0) in
    let high : b ≤ 57 = omega (arith, fits.0, small.0) in
    let digit = digit_value_digit b (low, high) in
    let same : n * 10 + less_zero b ≡ n * 10 + digit_value b = omega (arith, low, high, digit) in
    let on = bytes_are (n * 10 + digit_value b) bytes fits.1 small.1 in
    ((omega (arith, digit, high), on.0), ap (λ m. number_from_digits_after 10 m (map less_zero bytes)) same ∙ on.1)

-- ten times each even lane and the lane behind it
abbrev pub lane : ℕ → ℕ
lane z = z * 2561 % 65536 / 256

abbrev pairs_of : List ℕ → List ℕ
pairs_of [] = []
pairs_of (x ∷ []) = []
pairs_of (x ∷ y ∷ ds) = (x * 10 + y) ∷ pairs_of ds

in_pairs : (n : ℕ) (ds : List ℕ) → length ds ≡ n + n → Each1 (λ d. d < 10) ds → map lane (digits_l 65536 n (number_l 256 ds)) ≡ pairs_of ds
in_pairs zero [] long small = refl
in_pairs zero (x ∷ ds) long small = absurd (omega (arith, long))
in_pairs (suc n) [] long small = absurd (omega (arith, long))
in_pairs (suc n) (x ∷ []) long small = absurd (omega (arith, long))
in_pairs (suc n) (x ∷ y ∷ ds) long small =
    let rest = number_l 256 ds in
    let low : (x + 256 * (y + 256 * rest)) % 65536 ≡ x + 256 * y = omega (arith, small.0, small.1.0) in
    let high : (x + 256 * (y + 256 * rest)) / 65536 ≡ rest = omega (arith, small.0, small.1.0) in
    let pair : lane (x + 256 * y) ≡ x * 10 + y = omega (arith, small.0, small.1.0) in
    (λ i. lane (low i) ∷ map lane (digits_l 65536 n (high i))) ∙ ap (λ p. p ∷ map lane (digits_l 65536 n rest)) pair
    ∙ ap (λ l. (x * 10 + y) ∷ l) (in_pairs n ds (omega (arith, long)) small.1.1)

pairs_are : (n m : ℕ) (ds : List ℕ) → length ds ≡ n + n → Each1 (λ d. d < 10) ds
    → (length (pairs_of ds) ≡ n) × Each1 (λ p. p < 100) (pairs_of ds) × (number_from_digits_after 10 m ds ≡ number_from_digits_after 100 m (pairs_of ds))
pairs_are zero m [] long small = (refl, tt, refl)
pairs_are zero m (x ∷ ds) long small = absurd (omega (arith, long))
pairs_are (suc n) m [] long small = absurd (omega (arith, long))
pairs_are (suc n) m (x ∷ []) long small = absurd (omega (arith, long))
pairs_are (suc n) m (x ∷ y ∷ ds) long small =
    let on = pairs_are n (m * 100 + (x * 10 + y)) ds (omega (arith, long)) small.1.1 in
    let same : (m * 10 + x) * 10 + y ≡ m * 100 + (x * 10 + y) = omega arith in
    (ap suc on.0, (omega (arith, small.0, small.1.0), on.1), ap (λ k. number_from_digits_after 10 k ds) same ∙ on.2)

-- four lanes of sixteen bits as one word
abbrev word : ℕ → ℕ → ℕ → ℕ → ℕ
word a b c d = a + 65536 * (b + 65536 * (c + 65536 * d))

abbrev pub words : List ℕ → List ℕ
words ps = digits_l (2 ^ 64) 2 (number_l 256 (digits_l 256 16 (number_l 65536 ps)))

pub record Words (ws : List ℕ) (value : ℕ) : Type 0 where
  pub a : ℕ
  pub b : ℕ
  pub c : ℕ
  pub d : ℕ
  pub e : ℕ
  pub f : ℕ
  pub g : ℕ
  pub h : ℕ
  pub small_a : a < 100
  pub small_b : b < 100
  pub small_c : c < 100
  pub small_d : d < 100
  pub small_e : e < 100
  pub small_f : f < 100
  pub small_g : g < 100
  pub small_h : h < 100
  pub front : get_or ws 0 0 ≡ word a b c d
  pub back : get_or ws 1 0 ≡ word e f g h
  pub is : (((a * 100 + b) * 100 + c) * 100 + d) * 100000000 + (((e * 100 + f) * 100 + g) * 100 + h) ≡ value

number_of_digits : (p n x : ℕ) → 0 < p → x < p ^ n → number_l p (digits_l p n x) ≡ x
number_of_digits p zero x P h = omega (arith, native.Mathlib.Nat.pow-zero p)
number_of_digits p (suc n) x P h =
    let less : x / p < p ^ n = (div-lt_iff_lt-mul P).1 (rw (← pow-suc p n) h) in
    rw (number_of_digits p n (x / p) P less) (omega (arith, div-add-mod' x p))

words_are : (ps : List ℕ) → length ps ≡ 8 → Each1 (λ p. p < 100) ps → Words (words ps) (number_from_digits 100 ps)
words_are [] long small = absurd (omega (arith, long))
words_are (a ∷ []) long small = absurd (omega (arith, long))
words_are (a ∷ b ∷ []) long small = absurd (omega (arith, long))
words_are (a ∷ b ∷ c ∷ []) long small = absurd (omega (arith, long))
words_are (a ∷ b ∷ c ∷ d ∷ []) long small = absurd (omega (arith, long))
words_are (a ∷ b ∷ c ∷ d ∷ e ∷ []) long small = absurd (omega (arith, long))
words_are (a ∷ b ∷ c ∷ d ∷ e ∷ f ∷ []) long small = absurd (omega (arith, long))
words_are (a ∷ b ∷ c ∷ d ∷ e ∷ f ∷ g ∷ []) long small = absurd (omega (arith, long))
words_are (a ∷ b ∷ c ∷ d ∷ e ∷ f ∷ g ∷ h ∷ i ∷ ps) long small = absurd (omega (arith, long))
words_are (a ∷ b ∷ c ∷ d ∷ e ∷ f ∷ g ∷ h ∷ []) long (A, (B, (C, (D, (E, (F, (G, (H, _)))))))) =
    let n = number_l 65536 (a ∷ b ∷ c ∷ d ∷ e ∷ f ∷ g ∷ h ∷ []) in
    let whole : number_l 256 (digits_l 256 16 n) ≡ n = number_of_digits 256 16 n (omega arith) (omega (arith, A, B, C, D, E, F, G, H)) in
    let low : n % 2 ^ 64 ≡ word a b c d = omega (arith, A, B, C, D) in
    let high : n / 2 ^ 64 % 2 ^ 64 ≡ word e f g h = omega (arith, A, B, C, D, E, F, G, H) in
    record {
      a = a;
      b = b;
      c = c;
      d = d;
      e = e;
      f = f;
      g = g;
      h = h;
      small_a = A;
      small_b = B;
      small_c = C;
      small_d = D;
      small_e = E;
      small_f = F;
      small_g = G;
      small_h = H;
      front = ap (λ m. m % 2 ^ 64) whole ∙ low;
      back = ap (λ m. m / 2 ^ 64 % 2 ^ 64) whole ∙ high;
      is = omega arith;
    }

pub sixteen : (ds : List ℕ) → length ds ≡ 16 → Each1 (λ d. d < 10) ds → Words (words (map lane (digits_l 65536 8 (number_l 256 ds)))) (number_from_digits 10 ds)
sixteen ds long small =
    let pairs = pairs_are 8 0 ds long small in
    subst (λ ps. Words (words ps) (number_from_digits 10 ds)) (sym (in_pairs 8 ds long small))
    (subst (λ v. Words (words (pairs_of ds)) v) (sym pairs.2) (words_are (pairs_of ds) pairs.0 pairs.1))

-- Digits in front of eight lanes go to the end, behind zeros.
pub record Few (count n : ℕ) (vs : List ℕ) : Type 0 where
  pub ds : List ℕ
  pub long : length ds ≡ 8
  pub small : Each1 (λ d. d < 10) ds
  pub same : n ≡ number_l 256 ds
  pub is : number_from_digits 10 ds ≡ number_from_digits 10 (take count vs)

at_the_end : (count v0 v1 v2 v3 v4 v5 v6 v7 : ℕ) (rest : List ℕ) → 0 < count → count ≤ 8
    → Each1 (λ d. d < 10) (take count (v0 ∷ v1 ∷ v2 ∷ v3 ∷ v4 ∷ v5 ∷ v6 ∷ v7 ∷ rest))
    → Few count (number_l 256 (v0 ∷ v1 ∷ v2 ∷ v3 ∷ v4 ∷ v5 ∷ v6 ∷ v7 ∷ rest) % 2 ^ 64 * 2 ^ (64 - 8 * count) % 2 ^ 64) (v0 ∷ v1 ∷ v2 ∷ v3 ∷ v4 ∷ v5 ∷ v6 ∷ v7 ∷ rest)
at_the_end zero v0 v1 v2 v3 v4 v5 v6 v7 rest some few small = absurd (omega (arith, some))
at_the_end (suc zero) v0 v1 v2 v3 v4 v5 v6 v7 rest some few small =
    record { ds = 0 ∷ 0 ∷ 0 ∷ 0 ∷ 0 ∷ 0 ∷ 0 ∷ v0 ∷ []; long = refl; small = (lit< tt, (lit< tt, (lit< tt, (lit< tt, (lit< tt, (lit< tt, (lit< tt, small))))))); same = omega (arith, small.0); is = refl }
at_the_end (suc (suc zero)) v0 v1 v2 v3 v4 v5 v6 v7 rest some few small =
    record { ds = 0 ∷ 0 ∷ 0 ∷ 0 ∷ 0 ∷ 0 ∷ v0 ∷ v1 ∷ []; long = refl; small = (lit< tt, (lit< tt, (lit< tt, (lit< tt, (lit< tt, (lit< tt, small)))))); same = omega (arith, small.0, small.1.0); is = refl }
at_the_end (suc (suc (suc zero))) v0 v1 v2 v3 v4 v5 v6 v7 rest some few small =
    record { ds = 0 ∷ 0 ∷ 0 ∷ 0 ∷ 0 ∷ v0 ∷ v1 ∷ v2 ∷ []; long = refl; small = (lit< tt, (lit< tt, (lit< tt, (lit< tt, (lit< tt, small))))); same = omega (arith, small.0, small.1.0, small.1.1.0); is = refl }
at_the_end (suc (suc (suc (suc zero)))) v0 v1 v2 v3 v4 v5 v6 v7 rest some few small =
    record { ds = 0 ∷ 0 ∷ 0 ∷ 0 ∷ v0 ∷ v1 ∷ v2 ∷ v3 ∷ []; long = refl; small = (lit< tt, (lit< tt, (lit< tt, (lit< tt, small)))); same = omega (arith, small.0, small.1.0, small.1.1.0, small.1.1.1.0); is = refl }
at_the_end (suc (suc (suc (suc (suc zero))))) v0 v1 v2 v3 v4 v5 v6 v7 rest some few small =
    record { ds = 0 ∷ 0 ∷ 0 ∷ v0 ∷ v1 ∷ v2 ∷ v3 ∷ v4 ∷ []; long = refl; small = (lit< tt, (lit< tt, (lit< tt, small))); same = omega (arith, small.0, small.1.0, small.1.1.0, small.1.1.1.0, small.1.1.1.1.0); is = refl }
at_the_end (suc (suc (suc (suc (suc (suc zero)))))) v0 v1 v2 v3 v4 v5 v6 v7 rest some few small =
    record { ds = 0 ∷ 0 ∷ v0 ∷ v1 ∷ v2 ∷ v3 ∷ v4 ∷ v5 ∷ []; long = refl; small = (lit< tt, (lit< tt, small)); same = omega (arith, small.0, small.1.0, small.1.1.0, small.1.1.1.0, small.1.1.1.1.0, small.1.1.1.1.1.0); is = refl }
at_the_end (suc (suc (suc (suc (suc (suc (suc zero))))))) v0 v1 v2 v3 v4 v5 v6 v7 rest some few small =
    record { ds = 0 ∷ v0 ∷ v1 ∷ v2 ∷ v3 ∷ v4 ∷ v5 ∷ v6 ∷ []; long = refl; small = (lit< tt, small); same = omega (arith, small.0, small.1.0, small.1.1.0, small.1.1.1.0, small.1.1.1.1.0, small.1.1.1.1.1.0, small.1.1.1.1.1.1.0); is = refl }
at_the_end (suc (suc (suc (suc (suc (suc (suc (suc zero)))))))) v0 v1 v2 v3 v4 v5 v6 v7 rest some few small =
    record { ds = v0 ∷ v1 ∷ v2 ∷ v3 ∷ v4 ∷ v5 ∷ v6 ∷ v7 ∷ []; long = refl; small = small; same = omega (arith, small.0, small.1.0, small.1.1.0, small.1.1.1.0, small.1.1.1.1.0, small.1.1.1.1.1.0, small.1.1.1.1.1.1.0, small.1.1.1.1.1.1.1.0); is = refl }
at_the_end (suc (suc (suc (suc (suc (suc (suc (suc (suc count))))))))) v0 v1 v2 v3 v4 v5 v6 v7 rest some few small = absurd (omega (arith, few))

pub few_are : (count : ℕ) (vs : List ℕ) → 8 ≤ length vs → 0 < count → count ≤ 8 → Each1 (λ d. d < 10) (take count vs)
    → Few count (number_l 256 vs % 2 ^ 64 * 2 ^ (64 - 8 * count) % 2 ^ 64) vs
few_are count [] long some few small = absurd (omega (arith, long))
few_are count (v0 ∷ []) long some few small = absurd (omega (arith, long))
few_are count (v0 ∷ v1 ∷ []) long some few small = absurd (omega (arith, long))
few_are count (v0 ∷ v1 ∷ v2 ∷ []) long some few small = absurd (omega (arith, long))
few_are count (v0 ∷ v1 ∷ v2 ∷ v3 ∷ []) long some few small = absurd (omega (arith, long))
few_are count (v0 ∷ v1 ∷ v2 ∷ v3 ∷ v4 ∷ []) long some few small = absurd (omega (arith, long))
few_are count (v0 ∷ v1 ∷ v2 ∷ v3 ∷ v4 ∷ v5 ∷ []) long some few small = absurd (omega (arith, long))
few_are count (v0 ∷ v1 ∷ v2 ∷ v3 ∷ v4 ∷ v5 ∷ v6 ∷ []) long some few small = absurd (omega (arith, long))
few_are count (v0 ∷ v1 ∷ v2 ∷ v3 ∷ v4 ∷ v5 ∷ v6 ∷ v7 ∷ rest) long some few small = at_the_end count v0 v1 v2 v3 v4 v5 v6 v7 rest some few small

-- eight digits, as two in each four lanes of sixteen bits
pub record Pairs (ws : List ℕ) (value : ℕ) : Type 0 where
  pub a : ℕ
  pub b : ℕ
  pub c : ℕ
  pub d : ℕ
  pub small_a : a < 100
  pub small_b : b < 100
  pub small_c : c < 100
  pub small_d : d < 100
  pub whole : get_or ws 0 0 ≡ word a b c d
  pub is : ((a * 100 + b) * 100 + c) * 100 + d ≡ value

abbrev pub one_word : List ℕ → List ℕ
one_word ps = digits_l (2 ^ 64) 1 (number_l 256 (digits_l 256 8 (number_l 65536 ps)))

four_are : (ps : List ℕ) → length ps ≡ 4 → Each1 (λ p. p < 100) ps → Pairs (one_word ps) (number_from_digits 100 ps)
four_are [] long small = absurd (omega (arith, long))
four_are (a ∷ []) long small = absurd (omega (arith, long))
four_are (a ∷ b ∷ []) long small = absurd (omega (arith, long))
four_are (a ∷ b ∷ c ∷ []) long small = absurd (omega (arith, long))
four_are (a ∷ b ∷ c ∷ d ∷ e ∷ ps) long small = absurd (omega (arith, long))
four_are (a ∷ b ∷ c ∷ d ∷ []) long (A, (B, (C, (D, _)))) =
    let n = number_l 65536 (a ∷ b ∷ c ∷ d ∷ []) in
    let whole : number_l 256 (digits_l 256 8 n) ≡ n = number_of_digits 256 8 n (omega arith) (omega (arith, A, B, C, D)) in
    let low : n % 2 ^ 64 ≡ word a b c d = omega (arith, A, B, C, D) in
    record {
      a = a;
      b = b;
      c = c;
      d = d;
      small_a = A;
      small_b = B;
      small_c = C;
      small_d = D;
      whole = ap (λ m. m % 2 ^ 64) whole ∙ low;
      is = omega arith;
    }

below_word : (ds : List ℕ) → Each1 (λ d. d < 10) ds → number_l 256 ds < 256 ^ length ds
below_word [] small = lit< tt
below_word (x ∷ ds) small = rw (pow-suc 256 (length ds)) (omega (arith, small.0, below_word ds small.1))

pub eight : (n : ℕ) (ds : List ℕ) → length ds ≡ 8 → Each1 (λ d. d < 10) ds → n ≡ number_l 256 ds
    → Pairs (one_word (map lane (digits_l 65536 4 (number_l 256 (digits_l 256 8 (n + 2 ^ 64 * 0)))))) (number_from_digits 10 ds)
eight n ds long small same =
    let pairs = pairs_are 4 0 ds long small in
    let below : number_l 256 ds < 256 ^ 8 = subst (λ k. number_l 256 ds < 256 ^ k) long (below_word ds small) in
    let word_is : n + 2 ^ 64 * 0 ≡ number_l 256 ds = omega (arith, same) in
    let bytes : number_l 256 (digits_l 256 8 (n + 2 ^ 64 * 0)) ≡ number_l 256 ds = number_of_digits 256 8 (n + 2 ^ 64 * 0) (omega arith) (omega (arith, below, word_is)) ∙ word_is in
    subst (λ m. Pairs (one_word (map lane (digits_l 65536 4 m))) (number_from_digits 10 ds)) (sym bytes)
    (subst (λ ps. Pairs (one_word ps) (number_from_digits 10 ds)) (sym (in_pairs 4 ds long small))
    (subst (λ v. Pairs (one_word (pairs_of ds)) v) (sym pairs.2) (four_are (pairs_of ds) pairs.0 pairs.1)))

-- what the mask of the lanes above 9 tells
pub mask_is : (vs : List ℕ) → length vs ≡ 16 → mask_l (map (top 7) (zip2 (λ a b. cond (ltb a b) 255 0) (replicate 16 9) vs)) % 2 ^ 64 ≡ mask_l (map stops vs)
mask_is vs long =
    ap (λ l. mask_l l % 2 ^ 64) (ap (map (top 7)) (zip2_splat_left (λ a b. cond (ltb a b) 255 0) 9 16 vs long) ∙ map-map (top 7) (λ y. cond (ltb 9 y) 255 0) vs)
    ∙ mask_l-mod (map stops vs) 64 (omega (arith, length-map vs stops, long))

pub none_stops : (vs : List ℕ) (m : ℕ) → length vs ≡ 16 → m ≡ mask_l (map stops vs) → m ≡ 0 → Each1 (λ d. d < 10) (take 16 vs)
none_stops vs m long mask none =
    subst (λ k. Each1 (λ d. d < 10) (take k vs)) (leading_from_mask_l stops vs (sym mask ∙ none) ∙ long) (front_at_most_nine vs)

pub some_stops : (vs : List ℕ) (m : ℕ) → length vs ≡ 16 → m ≡ mask_l (map stops vs) → (m ≡ 0 → ⊥)
    → (count_trailing_zeros 64 m ≤ 16) × Each1 (λ d. d < 10) (take (count_trailing_zeros 64 m) vs)
some_stops vs m long mask some =
    let count = prefix_len (λ y. not (stops y)) vs in
    let is : count ≡ count_trailing_zeros 64 m = sym (ap (count_trailing_zeros 64) mask ∙ trailing_mask_l stops 64 vs (omega (arith, long)) (omega (arith, mask, some))) in
    let within : count ≤ 16 = omega (arith, prefix_len-le-length (λ y. not (stops y)) vs, long) in
    (subst (λ k. k ≤ 16) is within, subst (λ k. Each1 (λ d. d < 10) (take k vs)) is (front_at_most_nine vs))

pub each_of_front : (P : ℕ → Type 0) (n : ℕ) (xs : List ℕ) → Each1 P xs → Each1 P (take n xs)
each_of_front P zero xs each = tt
each_of_front P (suc n) [] each = tt
each_of_front P (suc n) (x ∷ xs) each = (each.0, each_of_front P n xs each.1)

-- so many bytes in front, read from the values of so many lanes
pub front_read : (bytes vs : List ℕ) (count n : ℕ) → Each1 (λ b. b < 256) bytes → vs ≡ map less_zero bytes → Each1 (λ d. d < 10) (take count vs)
    → n ≡ number_from_digits 10 (take count vs) → AllDigits 10 (take count bytes) × (n ≡ digits_value 10 (take count bytes))
front_read bytes vs count n fits values digits is =
    let lanes : take count vs ≡ map less_zero (take count bytes) = ap (take count) values ∙ take-map less_zero count bytes in
    let read = bytes_are 0 (take count bytes) (each_of_front (λ b. b < 256) count bytes fits) (subst (Each1 (λ d. d < 10)) lanes digits) in
    (read.0, is ∙ ap (number_from_digits 10) lanes ∙ read.1)

-- the same where the lanes are the first sixteen of more bytes
pub front_of_more : (bytes sixteen vs : List ℕ) (count n : ℕ) → ((i : ℕ) → get_or bytes i 0 < 256) → sixteen ≡ take 16 bytes → count ≤ 16
    → vs ≡ map less_zero sixteen → Each1 (λ d. d < 10) (take count vs) → n ≡ number_from_digits 10 (take count vs)
    → AllDigits 10 (take count bytes) × (n ≡ digits_value 10 (take count bytes))
front_of_more bytes sixteen vs count n fits e within values digits is =
    let each = each_of_front (λ b. b < 256) 16 bytes (Each1-from_get_or (λ b. b < 256) bytes 0 (λ i lt. fits i)) in
    let read = front_read sixteen vs count n (subst (Each1 (λ b. b < 256)) (sym e) each) values digits is in
    let same : take count sixteen ≡ take count bytes = ap (take count) e ∙ take-take count 16 bytes within in
    (subst (AllDigits 10) same read.0, read.1 ∙ ap (digits_value 10) same)
