-- Words that are those of no value.
use Rattle.std.proofs.Common.{◌≡◌, ◌<◌, ◌*◌, ◌%◌, ◌/◌, ◌^◌, ℕ, zero, suc, List, [], ◌∷◌, length, decimal, nat_lt, ◌==◌, refl, sym, ap, ◌∙◌, subst, arith, Bool, true, false, IsTrue, ◌↔◌, ◌≤◌, ◌+◌, ◌-◌, inl, inr}
use Rattle.std.specs.List.{list_all}
use Rattle.std.specs.Prelude.{slice_index}
use Rattle.std.proofs.lemmas.Fmt.{decimal_injective}
use Rattle.std.proofs.lemmas.Bool.{cases_lt, and_parts}
use Rattle.std.proofs.lemmas.Bool.Decides.{nat_tests}
use Rattle.esx_events.specs.Names.{is_name, IsName}
use Rattle.hex.specs.Hex.{encode_lower, encode_with, lower_digits, IsBytes}
use Rattle.hex.proofs.HexLemmas.{length-encode_with}
use Rattle.esx_reading.specs.declared.written.TheConstants.{MAX_DIGITS}
use Rattle.esx_reading.specs.Written.{IsWritten}
use Rattle.esx_explained.specs.Operands.{is_lower_digit}

not_below : (a b : ℕ) → nat_lt a b ≡ false → a < b → ⊥
not_below a b e lt = grind (arith, nat_tests)

below_by : (number limit : ℕ) (word : List ℕ) (b : Bool) → nat_lt number limit ≡ b → number < 2 ^ 64 → limit < 2 ^ 64 → word ≡ decimal number
    → IsTrue b ↔ ((n : ℕ) × (n < limit) × (word ≡ decimal n))
below_by number limit word true e small fits is = (λ t. (number, grind (arith, nat_tests), is), λ h. refl)
below_by number limit word false e small fits is = (
  λ t. absurd cc,
  λ h.
      let (n, lt, f) = h in
      let same : n ≡ number = decimal_injective n number (omega arith) small (sym f ∙ is) in
      absurd (not_below number limit e (subst (λ (k : ℕ). k < limit) same lt)),
)

-- a number below a limit is told by a test
pub below_test : (number limit : ℕ) (word : List ℕ) → number < 2 ^ 64 → limit < 2 ^ 64 → word ≡ decimal number
    → IsTrue (nat_lt number limit) ↔ ((n : ℕ) × (n < limit) × (word ≡ decimal n))
below_test number limit word small fits is = below_by number limit word (nat_lt number limit) refl small fits is

-- the hex of bytes has two digits for each
pub hex_length : (word bytes : List ℕ) → word ≡ encode_lower bytes → length word ≡ 2 * length bytes
hex_length word bytes e = ap length e ∙ length-encode_with lower_digits bytes

pub is_digit : (v : ℕ) → v < 16 → is_lower_digit (slice_index lower_digits v) ≡ true
is_digit zero lt = refl
is_digit (suc zero) lt = refl
is_digit (suc (suc zero)) lt = refl
is_digit (suc (suc (suc zero))) lt = refl
is_digit (suc (suc (suc (suc zero)))) lt = refl
is_digit (suc (suc (suc (suc (suc zero))))) lt = refl
is_digit (suc (suc (suc (suc (suc (suc zero)))))) lt = refl
is_digit (suc (suc (suc (suc (suc (suc (suc zero))))))) lt = refl
is_digit (suc (suc (suc (suc (suc (suc (suc (suc zero)))))))) lt = refl
is_digit (suc (suc (suc (suc (suc (suc (suc (suc (suc zero))))))))) lt = refl
is_digit (suc (suc (suc (suc (suc (suc (suc (suc (suc (suc zero)))))))))) lt = refl
is_digit (suc (suc (suc (suc (suc (suc (suc (suc (suc (suc (suc zero))))))))))) lt = refl
is_digit (suc (suc (suc (suc (suc (suc (suc (suc (suc (suc (suc (suc zero)))))))))))) lt = refl
is_digit (suc (suc (suc (suc (suc (suc (suc (suc (suc (suc (suc (suc (suc zero))))))))))))) lt = refl
is_digit (suc (suc (suc (suc (suc (suc (suc (suc (suc (suc (suc (suc (suc (suc zero)))))))))))))) lt = refl
is_digit (suc (suc (suc (suc (suc (suc (suc (suc (suc (suc (suc (suc (suc (suc (suc zero))))))))))))))) lt = refl
is_digit (suc (suc (suc (suc (suc (suc (suc (suc (suc (suc (suc (suc (suc (suc (suc (suc v)))))))))))))))) lt = absurd (omega arith)

pub all_digits : (bytes : List ℕ) → IsBytes bytes → list_all is_lower_digit (encode_lower bytes) ≡ true
unfolding encode_with
all_digits [] are = refl
all_digits (b ∷ bs) are =
    let small : b < 256 = are 0 in
    rw (is_digit (b / 16) (omega arith)) (rw (is_digit (b % 16) (omega arith)) (all_digits bs (λ i. are (suc i))))

digit_at : (v : ℕ) → v < 10 → slice_index lower_digits v ≡ v + 48
digit_at zero lt = refl
digit_at (suc zero) lt = refl
digit_at (suc (suc zero)) lt = refl
digit_at (suc (suc (suc zero))) lt = refl
digit_at (suc (suc (suc (suc zero)))) lt = refl
digit_at (suc (suc (suc (suc (suc zero))))) lt = refl
digit_at (suc (suc (suc (suc (suc (suc zero)))))) lt = refl
digit_at (suc (suc (suc (suc (suc (suc (suc zero))))))) lt = refl
digit_at (suc (suc (suc (suc (suc (suc (suc (suc zero)))))))) lt = refl
digit_at (suc (suc (suc (suc (suc (suc (suc (suc (suc zero))))))))) lt = refl
digit_at (suc (suc (suc (suc (suc (suc (suc (suc (suc (suc v)))))))))) lt = absurd (omega arith)

letter_at : (v : ℕ) → v < 6 → slice_index lower_digits (v + 10) ≡ v + 97
letter_at zero lt = refl
letter_at (suc zero) lt = refl
letter_at (suc (suc zero)) lt = refl
letter_at (suc (suc (suc zero))) lt = refl
letter_at (suc (suc (suc (suc zero)))) lt = refl
letter_at (suc (suc (suc (suc (suc zero))))) lt = refl
letter_at (suc (suc (suc (suc (suc (suc v)))))) lt = absurd (omega arith)

-- what a digit is worth
value_of : (d : ℕ) → is_lower_digit d ≡ true → (v : ℕ) × (v < 16) × (slice_index lower_digits v ≡ d)
value_of d is = elim (cases_lt d 58) [
  | inl lt ↦ (let least : 48 ≤ d = grind (arith, nat_tests) in (d - 48, omega arith, (let at = digit_at (d - 48) (omega arith) in omega arith)))
  | inr le ↦ (
      let least : 97 ≤ d = grind (arith, nat_tests) in
      let most : d ≤ 102 = grind (arith, nat_tests) in
      let e : d - 97 + 10 ≡ d - 87 = omega arith in
      (d - 87, omega arith, ap (slice_index lower_digits) (sym e) ∙ (let at = letter_at (d - 97) (omega arith) in omega arith))
      )
]

bytes_more : (b : ℕ) (bs : List ℕ) → b < 256 → IsBytes bs → IsBytes (b ∷ bs)
bytes_more b bs lt are zero = lt
bytes_more b bs lt are (suc i) = are i

-- the bytes of digits that are two for each
bytes_of : (word : List ℕ) → list_all is_lower_digit word ≡ true → length word % 2 ≡ 0 → (bytes : List ℕ) × IsBytes bytes × (word ≡ encode_lower bytes)
unfolding encode_with
bytes_of [] are even = ([], λ i. omega arith, refl)
bytes_of (d ∷ []) are even = absurd (omega arith)
bytes_of (h ∷ l ∷ ds) are even =
    let first = and_parts _ _ are in
    let second = and_parts _ _ first.1 in
    let (a, m, e) = value_of h first.0 in
    let (b, n, f) = value_of l second.0 in
    let (bytes, are_bytes, g) = bytes_of ds second.1 (omega arith) in
    let high : (a * 16 + b) / 16 ≡ a = omega arith in
    let low : (a * 16 + b) % 16 ≡ b = omega arith in (
      (a * 16 + b) ∷ bytes,
      bytes_more (a * 16 + b) bytes (omega arith) are_bytes,
      (
          let one : h ≡ slice_index lower_digits ((a * 16 + b) / 16) = sym (ap (slice_index lower_digits) high ∙ e) in
          let two : l ≡ slice_index lower_digits ((a * 16 + b) % 16) = sym (ap (slice_index lower_digits) low ∙ f) in
          ap (λ (x : ℕ). x ∷ l ∷ ds) one ∙ (ap (λ (x : ℕ). slice_index lower_digits ((a * 16 + b) / 16) ∷ x ∷ ds) two
          ∙ ap (λ (x : List ℕ). slice_index lower_digits ((a * 16 + b) / 16) ∷ slice_index lower_digits ((a * 16 + b) % 16) ∷ x) g)
          ),
    )

-- a word is that of bytes by its length and its digits
pub written_test : (word : List ℕ) (b : Bool) → b ≡ list_all is_lower_digit word → 0 < length word → length word ≤ MAX_DIGITS → length word % 2 ≡ 0
    → IsTrue b ↔ ((bytes : List ℕ) × IsWritten bytes × (word ≡ encode_lower bytes))
written_test word b e some few even = (
  λ t.
      let (bytes, are, is) = bytes_of word (sym e ∙ t) even in
      let long = hex_length word bytes is in
      (bytes, record { some = omega arith; few = omega arith; are_bytes = are }, is),
  λ h. let (bytes, are, is) = h in e ∙ (ap (list_all is_lower_digit) is ∙ all_digits bytes are.are_bytes),
)

pub is_zero : (n : ℕ) (b : Bool) → b ≡ (n == 0) → b ≡ true → n ≡ 0
is_zero n b e f = grind (arith, nat_tests)

pub is_more : (n : ℕ) (b : Bool) → b ≡ (n == 0) → b ≡ false → 0 < n
is_more n b e f = grind (arith, nat_tests)

pub name_test : (word : List ℕ) (b : Bool) → b ≡ is_name word → IsTrue b ↔ ((x : List ℕ) × IsName x × (word ≡ x))
name_test word b e = (λ t. (word, sym e ∙ t, refl), λ h. let (x, is, f) = h in e ∙ (ap is_name f ∙ is))
