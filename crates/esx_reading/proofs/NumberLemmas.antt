-- Numbers that are written without sign and without leading zeros.
use Rattle.std.proofs.Common.{◌≡◌, ◌+◌, ◌-◌, ◌*◌, take, ◌<◌, ◌≤◌, ◌^◌, ◌⊎◌, ℕ, zero, suc, List, length, get_or, arith, refl, ap, sym, subst, ◌∙◌, decimal, ⊎_elim}
use Rattle.std.specs.Prelude.{IfSome, IfNone, Option, Some, None}
use Rattle.std.specs.Str.Parse.{AllDigits, digits_value}
use Rattle.std.specs.Char.{digit_value}
use Rattle.std.proofs.Math.Seq.{take-length}
use Rattle.std.proofs.lemmas.Str.{digit_value_digit}
use Rattle.std.proofs.lemmas.Str.Parse.{IsNumeralModel, digit_at, digits_value-take-le}
use Rattle.std.proofs.lemmas.Int.Digits.{digits_more, digits_value_more}
use Rattle.std.proofs.lemmas.Fmt.{first_decimal, decimal_digit, decimal-digits_value, digits_decimal, digits_value-decimal}

own : IsNumeralModel (AllDigits 10) (digits_value 10)
own = record { to = λ ds d. d; from = λ ds d. d; same = λ ds d. refl }

-- `0` alone begins with a zero
pub zero_alone : (n : ℕ) (text : List ℕ) → n < 2 ^ 64 → text ≡ decimal n → get_or text 0 0 ≤ 48 → length text ≡ 1
zero_alone zero text small e low = ap length e ∙ ap length (decimal_digit 0 (omega arith))
zero_alone (suc n) text small e low =
    let f = first_decimal (suc n) (omega arith) small in
    let g : get_or text 0 0 ≡ get_or (decimal (suc n)) 0 0 = ap (λ t. get_or t 0 0) e in
    absurd (omega (arith, f, g, low))

-- the digits of a text that may be a number write the number that the text is the decimal digits of
pub read_number : (text bytes : List ℕ) (r : Option ℕ) → bytes ≡ text → (get_or text 0 0 ≤ 48 → length text ≡ 1) → 0 < length text
    → IfSome r (λ n. (n < 2 ^ 64) × AllDigits 10 bytes × (n ≡ digits_value 10 bytes)) → IfSome r (λ n. (n < 2 ^ 64) × (text ≡ decimal n))
read_number text bytes None e one some p = tt
read_number text bytes (Some n) e one some p =
    let digits : AllDigits 10 text = subst (AllDigits 10) e p.1 in
    let value : n ≡ digits_value 10 text = p.2 ∙ ap (digits_value 10) e in
    let small : digits_value 10 text < 2 ^ 64 = subst (λ m. m < 2 ^ 64) value p.0 in
    (p.0, sym (decimal-digits_value own text digits some (λ low. one (omega (arith, low))) small) ∙ ap decimal (sym value))

pub read_none : (text bytes : List ℕ) (r : Option ℕ) → bytes ≡ text → IfNone r (AllDigits 10 bytes → digits_value 10 bytes < 2 ^ 64 → ⊥)
    → IfNone r ((n : ℕ) → n < 2 ^ 64 → text ≡ decimal n → ⊥)
read_none text bytes (Some n) e p = tt
read_none text bytes None e p = λ n small is.
    let same : decimal n ≡ bytes = sym (e ∙ is) in
    p (subst (AllDigits 10) same (digits_decimal own n small)) (omega (arith, small, digits_value-decimal own n small, ap (digits_value 10) same))

-- a byte that is no digit, and one more digit
pub no_digit_at : (bytes : List ℕ) (i : ℕ) → i < length bytes → (get_or bytes i 0 < 48) ⊎ (57 < get_or bytes i 0) → AllDigits 10 bytes → ⊥
no_digit_at bytes i within none digits =
    let d = digit_at bytes i digits within in
    ⊎_elim (λ low. omega (arith, low, d.0, d.1)) (λ high. omega (arith, high, d.0, d.1)) none

digit_here : (bytes : List ℕ) (i : ℕ) → 48 ≤ get_or bytes i 0 → get_or bytes i 0 ≤ 57 → digit_value (get_or bytes i 0) ≡ get_or bytes i 0 - 48
digit_here bytes i low high = omega (arith, digit_value_digit (get_or bytes i 0) (low, high), low)

pub value_more : (bytes : List ℕ) (i : ℕ) → i < length bytes → 48 ≤ get_or bytes i 0 → get_or bytes i 0 ≤ 57
    → digits_value 10 (take (i + 1) bytes) ≡ digits_value 10 (take i bytes) * 10 + (get_or bytes i 0 - 48)
value_more bytes i within low high = omega (arith, digits_value_more 10 bytes i within, digit_here bytes i low high)

pub digit_more : (bytes : List ℕ) (i : ℕ) → i < length bytes → 48 ≤ get_or bytes i 0 → get_or bytes i 0 ≤ 57 → AllDigits 10 (take i bytes) → AllDigits 10 (take (i + 1) bytes)
digit_more bytes i within low high all = digits_more 10 bytes i within all (omega (arith, digit_here bytes i low high, low, high))

pub value_at_most : (bytes : List ℕ) (i : ℕ) → i < length bytes → 48 ≤ get_or bytes i 0 → get_or bytes i 0 ≤ 57
    → digits_value 10 (take i bytes) * 10 + (get_or bytes i 0 - 48) ≤ digits_value 10 bytes
value_at_most bytes i within low high =
    omega (arith, value_more bytes i within low high, digits_value-take-le 10 bytes (i + 1) (omega arith))

-- where all bytes were gone over
pub all_read : (bytes : List ℕ) (i n : ℕ) → i ≡ length bytes → n < 2 ^ 64 → AllDigits 10 (take i bytes) → n ≡ digits_value 10 (take i bytes)
    → (n < 2 ^ 64) × AllDigits 10 bytes × (n ≡ digits_value 10 bytes)
all_read bytes i n past small digits value =
    let whole : take i bytes ≡ bytes = ap (λ k. take k bytes) past ∙ take-length bytes in
    (small, subst (AllDigits 10) whole digits, value ∙ ap (digits_value 10) whole)
