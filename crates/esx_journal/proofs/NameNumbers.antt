-- Names as numbers.
use Rattle.std.proofs.Common.{◌≡◌, ℕ, ◌+◌, ◌-◌, ◌*◌, ◌^◌, ◌<◌, ◌≤◌, Bool, true, false, ◌&&◌, List, [], ◌∷◌, ◌++◌, take, drop, length, refl, sym, ap, ◌∙◌, arith, bytes_eq, Ordering, Less, Equal, Greater, is_eq, nat_cmp, zero, suc, take-append-drop, pow_mono, pow-add, Fits, w64, get_or}
use Rattle.std.specs.Prelude.{nat_le}
use Rattle.std.proofs.Math.Facts.{Fits-of_lt}
use Rattle.std.proofs.lemmas.List.{drop_more}
use Rattle.std.specs.List.{AllByRecursion, list_all}
use Rattle.std.specs.BTreeMap.{is_at}
use Rattle.std.specs.Cmp.{nat_cmp_total}
use Rattle.std.specs.Ordering.{ordering_then, ordering_reverse}
use Rattle.std.proofs.lemmas.Bool.{and_parts}
use Rattle.std.proofs.lemmas.Map.Lookups.{exact_pairs, exact_unsigned}
use Rattle.std.proofs.lemmas.Slice.Eq.{bytes_eq-Decides}
use Rattle.esx_events.specs.declared.name.TheConstants.{MAX_NAME}
use Rattle.esx_events.specs.Names.{IsName, is_name_byte, starts_lower}
use Rattle.esx_journal.specs.Marks.{number_of, numbers_of, pair_of, pair_cmp, compared}

pub number_none : number_of [] ≡ 0
unfolding number_of
number_none = refl

-- a number with one more byte, below the others
pub number_more : (bs : List ℕ) (d : ℕ) → d < length bs → number_of (drop (length bs - (d + 1)) bs) ≡ number_of (drop (length bs - d) bs) * 256 + get_or bs (length bs - 1 - d) 0
unfolding number_of
number_more bs d within =
    let at : ℕ = length bs - (d + 1) in
    let step : number_of (drop at bs) ≡ get_or bs at 0 + 256 * number_of (drop (at + 1) bs) = ap number_of (drop_more bs at 0 (omega arith)) in
    let rest : number_of (drop (at + 1) bs) ≡ number_of (drop (length bs - d) bs) = ap (λ k. number_of (drop k bs)) (omega arith) in
    let byte : get_or bs at 0 ≡ get_or bs (length bs - 1 - d) 0 = ap (λ k. get_or bs k 0) (omega arith) in
    omega arith

pub number_below : (n b d : ℕ) → n < 2 ^ (8 * d) → b < 256 → n * 256 + b < 2 ^ (8 * (d + 1))
number_below n b d below byte =
    let more : 8 * (d + 1) ≡ 8 * d + 8 = omega arith in
    let room : 2 ^ (8 * (d + 1)) ≡ 2 ^ (8 * d) * 256 = ap (λ k. 2 ^ k) more ∙ pow-add 2 (8 * d) 8 in
    omega arith

pub number_fits : (n b d : ℕ) → n < 2 ^ (8 * d) → b < 256 → d < 8 → Fits w64 (n * 256 + b)
number_fits n b d below byte few =
    let least = number_below n b d below byte in
    let most : 2 ^ (8 * (d + 1)) ≤ 2 ^ 64 = pow_mono {i = 8 * (d + 1)} {j = 64} (omega arith) in
    Fits-of_lt (omega arith)

pub product_fits : (n d : ℕ) → n < 2 ^ (8 * d) → d < 8 → Fits w64 (n * 256)
product_fits n d below few =
    let least = number_below n 0 d below (omega arith) in
    let most : 2 ^ (8 * (d + 1)) ≤ 2 ^ 64 = pow_mono {i = 8 * (d + 1)} {j = 64} (omega arith) in
    Fits-of_lt (omega arith)

-- digits in base 256, none of them 0
abbrev AreDigits : List ℕ → Type 0
AreDigits = AllByRecursion (λ b. (0 < b) × (b < 256))

same_number : (xs ys : List ℕ) → AreDigits xs → AreDigits ys → number_of xs ≡ number_of ys → xs ≡ ys
unfolding number_of
same_number [] [] p q e = refl
same_number [] (y ∷ ys) p q e = absurd (let none : 0 ≡ y + 256 * number_of ys = e in let some : 0 < y = q.0.0 in omega arith)
same_number (x ∷ xs) [] p q e = absurd (let none : x + 256 * number_of xs ≡ 0 = e in let some : 0 < x = p.0.0 in omega arith)
same_number (x ∷ xs) (y ∷ ys) p q e =
    let sum : x + 256 * number_of xs ≡ y + 256 * number_of ys = e in
    let below : x < 256 = p.0.1 in
    let under : y < 256 = q.0.1 in
    let first : x ≡ y = omega arith in
    let rest : number_of xs ≡ number_of ys = omega arith in
    ap (λ b. b ∷ xs) first ∙ ap (λ bs. y ∷ bs) (same_number xs ys p.1 q.1 rest)

digits_taken : (n : ℕ) (xs : List ℕ) → AreDigits xs → AreDigits (take n xs)
digits_taken zero xs p = tt
digits_taken (suc n) [] p = tt
digits_taken (suc n) (x ∷ xs) p = (p.0, digits_taken n xs p.1)

digits_left : (n : ℕ) (xs : List ℕ) → AreDigits xs → AreDigits (drop n xs)
digits_left zero xs p = p
digits_left (suc n) [] p = tt
digits_left (suc n) (x ∷ xs) p = digits_left n xs p.1

digit : (b : ℕ) → is_name_byte b ≡ true → (0 < b) × (b < 256)
digit b e = (grind arith, grind arith)

digits : (xs : List ℕ) → list_all is_name_byte xs ≡ true → AreDigits xs
digits [] e = tt
digits (x ∷ xs) e = (let both = and_parts (is_name_byte x) (list_all is_name_byte xs) e in (digit x both.0, digits xs both.1))

digits_of_name : (name : List ℕ) → IsName name → AreDigits name
digits_of_name name e = digits name (and_parts (starts_lower name && nat_le (length name) MAX_NAME) (list_all is_name_byte name) e).1

same_pair : (a b : List ℕ) → AreDigits a → AreDigits b → pair_of a ≡ pair_of b → a ≡ b
same_pair a b p q e =
    let front : take 8 a ≡ take 8 b = same_number (take 8 a) (take 8 b) (digits_taken 8 a p) (digits_taken 8 b q) (ap (λ (n : ℕ × ℕ). n.0) e) in
    let back : drop 8 a ≡ drop 8 b = same_number (drop 8 a) (drop 8 b) (digits_left 8 a p) (digits_left 8 b q) (ap (λ (n : ℕ × ℕ). n.1) e) in
    sym (take-append-drop 8 a) ∙ ap (λ xs. xs ++ drop 8 a) front ∙ ap (λ xs. take 8 b ++ xs) back ∙ take-append-drop 8 b

same_numbers : (a b : List ℕ) → IsName a → IsName b → numbers_of a ≡ numbers_of b → a ≡ b
same_numbers a b p q e =
    let c = digits_of_name a p in
    let d = digits_of_name b q in
    let front : take 16 a ≡ take 16 b = same_pair (take 16 a) (take 16 b) (digits_taken 16 a c) (digits_taken 16 b d) (ap (λ (n : (ℕ × ℕ) × (ℕ × ℕ)). n.0) e) in
    let back : drop 16 a ≡ drop 16 b = same_pair (drop 16 a) (drop 16 b) (digits_left 16 a c) (digits_left 16 b d) (ap (λ (n : (ℕ × ℕ) × (ℕ × ℕ)). n.1) e) in
    sym (take-append-drop 16 a) ∙ ap (λ xs. xs ++ drop 16 a) front ∙ ap (λ xs. take 16 b ++ xs) back ∙ take-append-drop 16 b

turned_itself : (o : Ordering) → o ≡ ordering_reverse o → o ≡ Equal
turned_itself Equal e = refl
turned_itself Less e = cc
turned_itself Greater e = cc

alike : (n : ℕ) → nat_cmp n n ≡ Equal
alike n = turned_itself (nat_cmp n n) (nat_cmp_total.antisymm n n)

pair_itself : (n : ℕ × ℕ) → pair_cmp n n ≡ Equal
pair_itself n = ap (λ o. ordering_then o (nat_cmp n.1 n.1)) (alike n.0) ∙ alike n.1

itself : (n : (ℕ × ℕ) × (ℕ × ℕ)) → compared n n ≡ Equal
itself n = ap (λ o. ordering_then o (pair_cmp n.1 n.1)) (pair_itself n.0) ∙ pair_itself n.1

exact : (a b : (ℕ × ℕ) × (ℕ × ℕ)) → compared a b ≡ Equal → a ≡ b
exact = exact_pairs pair_cmp pair_cmp (exact_pairs nat_cmp nat_cmp exact_unsigned exact_unsigned) (exact_pairs nat_cmp nat_cmp exact_unsigned exact_unsigned)

-- the numbers of two names are alike where the names are one
pub told_apart : (a b : List ℕ) → IsName a → IsName b → is_at (compared (numbers_of a)) (numbers_of b) ≡ bytes_eq a b
told_apart a b p q = of (bytes_eq a b) refl
  where
    of : (same : Bool) → bytes_eq a b ≡ same → is_at (compared (numbers_of a)) (numbers_of b) ≡ same
    of true e = ap (λ (c : List ℕ). is_eq (compared (numbers_of a) (numbers_of c))) (sym ((bytes_eq-Decides a b).0 e)) ∙ ap is_eq (itself (numbers_of a))
    of false e = other (compared (numbers_of a) (numbers_of b)) refl
      where
        other : (o : Ordering) → compared (numbers_of a) (numbers_of b) ≡ o → is_eq o ≡ false
        other Less h = refl
        other Greater h = refl
        other Equal h = (let one : a ≡ b = same_numbers a b p q (exact (numbers_of a) (numbers_of b) h) in let two = sym ((bytes_eq-Decides a b).1 one) ∙ e in cc)
