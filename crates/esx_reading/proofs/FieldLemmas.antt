-- Splitting a line into fields, and joining them.
use Rattle.std.proofs.Common.{◌≡◌, ◌≢◌, ◌++◌, ◌<◌, ◌^◌, ◌/◌, ◌%◌, inl, inr, ℕ, List, [], ◌∷◌, length, get_or, arith, refl, ap, sym, ◌∙◌, true, false, nat_lt, decimal, lit<}
use Rattle.std.specs.List.{All, AllByRecursion}
use Rattle.std.proofs.Math.Dec.{eqb}
use Rattle.std.proofs.lemmas.List.Splits.{slice_split_none, slice_split_at, join_with_byte-slice_split}
use Rattle.std.proofs.lemmas.List.Elements.{All-from_get_or, All-from_recursion, All-get_or, All-weaker, All-append, All-cons}
use Rattle.std.proofs.lemmas.Str.Ascii.{All-from_ascii, IsAscii-from_all}
use Rattle.std.specs.Str.{IsAscii}
use Rattle.hex.proofs.HexLemmas.{IsAscii-encode_with}
use borrow.Author.Tests.{ltb-true}
use Rattle.hex.specs.Hex.{encode_lower, encode_with, lower_digits}
use Rattle.std.proofs.lemmas.Str.Parse.{not_in_digits, numerals_by_value, tells_digits}
use Rattle.std.proofs.lemmas.Fmt.{digits_decimal, IsAscii-decimal}
use Rattle.std.proofs.lemmas.Bool.Decides.{Decides-eqb, not_from_Decides}
use Rattle.std.proofs.lemmas.Bool.{cases_lt}
use Rattle.std.proofs.lemmas.List.{get_or_past}
use Rattle.std.specs.Prelude.{fold, ◌+◌, ◌*◌, Option, None, Some, Bool, not, ◌&&◌, is_some, IsTrue}
use Rattle.std.specs.Borrow.{Bor}
use Rattle.std.specs.List.{list_all}
use Rattle.std.proofs.lemmas.List.Sums.{AllPass-from_list_all}
use Rattle.std.proofs.lemmas.Bool.{and_parts}
use Rattle.std.proofs.lemmas.List.Splits.{length-slice_split}
use Rattle.esx_reading.specs.Fields.{HasNoSpace, fields, fields_left, joined}

-- no space stands in the text, and each byte is ASCII
pub record IsField (text : List ℕ) : Type 0 where
  pub each : All (λ b. eqb b 32 ≡ false) text
  pub ascii : All (λ b. b < 128) text

pub no_match : (b c : ℕ) → b ≢ c → eqb b c ≡ false
no_match b c ne = grind (arith, Decides-eqb b c)

no_space : (text : List ℕ) → HasNoSpace text → All (λ b. eqb b 32 ≡ false) text
no_space text h = All-weaker (λ b. b ≡ 32 → ⊥) (λ b. eqb b 32 ≡ false) (λ b ne. no_match b 32 ne) text h

pub next_field : (text front back : List ℕ) → HasNoSpace front → text ≡ front ++ 32 ∷ back → fields text ≡ front ∷ fields back
next_field text front back none e = ap fields e ∙ slice_split_at (λ b. eqb b 32) front 32 back (no_space front none) refl

pub last_field : (text : List ℕ) → HasNoSpace text → fields text ≡ text ∷ []
last_field text none = slice_split_none (λ b. eqb b 32) text (no_space text none)

pub joined_of_fields : (text : List ℕ) → joined (fields text) ≡ text
joined_of_fields text = join_with_byte-slice_split 32 text

-- a text has some field
pub some_field : (text : List ℕ) → fields text ≡ [] → ⊥
some_field text e = let n = ap length e ∙ refl in omega (arith, length-slice_split (λ b. eqb b 32) text, n)

pub empty_at : (rest : Option (Bor (List ℕ))) (is : Bool) → is_some rest ≡ not is → (IsTrue is → fields_left rest ≡ []) × (fields_left rest ≡ [] → IsTrue is)
empty_at None true e = (λ t. refl, λ n. refl)
empty_at None false e = absurd (cc)
empty_at (Some text) true e = absurd (cc)
empty_at (Some text) false e = (λ t. absurd (cc), λ n. absurd (some_field text.now n))

pub fields_of_joined : (w : List ℕ) (ws : List (List ℕ)) → IsField w → AllByRecursion IsField ws → fields (joined (w ∷ ws)) ≡ w ∷ ws
fields_of_joined w [] h hs = slice_split_none (λ b. eqb b 32) w h.each
fields_of_joined w (v ∷ vs) h hs =
    slice_split_at (λ b. eqb b 32) w 32 (joined (v ∷ vs)) h.each refl ∙ ap (λ r. w ∷ r) (fields_of_joined v vs hs.0 hs.1)

pub no_space_in_decimal : (n : ℕ) → n < 2 ^ 64 → IsField (decimal n)
no_space_in_decimal n small = record {
  each = All-from_get_or (λ b. eqb b 32 ≡ false) (decimal n) 0
      (λ i lt. no_match (get_or (decimal n) i 0) 32
      (not_in_digits (numerals_by_value _ tells_digits) (decimal n) 32 (digits_decimal (numerals_by_value _ tells_digits) n small) (λ r. omega (arith, r)) i lt));
  ascii = All-from_ascii (decimal n) (IsAscii-decimal n small);
}

not_true : (b : Bool) → not b ≡ true → b ≡ false
not_true true e = cc
not_true false e = refl

-- a text of known bytes
pub no_space_in_known : (text : List ℕ) → list_all (λ b. not (eqb b 32) && nat_lt b 128) text ≡ true → IsField text
no_space_in_known text e = record {
  each = All-weaker (λ b. (not (eqb b 32) && nat_lt b 128) ≡ true) (λ b. eqb b 32 ≡ false) (λ b t. not_true (eqb b 32) (and_parts _ _ t).0) text (AllPass-from_list_all (λ b. not (eqb b 32) && nat_lt b 128) text e);
  ascii = All-weaker (λ b. (not (eqb b 32) && nat_lt b 128) ≡ true) (λ b. b < 128) (λ b t. ltb-true b 128 (and_parts _ _ t).1) text (AllPass-from_list_all (λ b. not (eqb b 32) && nat_lt b 128) text e);
}

-- each digit of a hex table is none, wherever it is looked up
in_lower_digits : (n : ℕ) → eqb (get_or lower_digits n 0) 32 ≡ false
in_lower_digits n = elim (cases_lt n (length lower_digits)) [
  | inl within ↦ All-get_or (λ b. eqb b 32 ≡ false) lower_digits n 0 within
      (All-from_recursion (λ b. eqb b 32 ≡ false) lower_digits
      (refl, (refl, (refl, (refl, (refl, (refl, (refl, (refl, (refl, (refl, (refl, (refl, (refl, (refl, (refl, (refl, tt)))))))))))))))))
  | inr past ↦ ap (λ x. eqb x 32) (get_or_past lower_digits n 0 past)
]

pub ascii_digits : IsAscii lower_digits
ascii_digits = IsAscii-from_all lower_digits (All-weaker (λ b. nat_lt b 128 ≡ true) (λ b. b < 128) (λ b t. ltb-true b 128 t) lower_digits
    (All-from_recursion (λ b. nat_lt b 128 ≡ true) lower_digits
    (refl, (refl, (refl, (refl, (refl, (refl, (refl, (refl, (refl, (refl, (refl, (refl, (refl, (refl, (refl, (refl, tt))))))))))))))))))

hex_by_recursion : (bytes : List ℕ) → AllByRecursion (λ b. eqb b 32 ≡ false) (encode_lower bytes)
unfolding encode_with
hex_by_recursion [] = tt
hex_by_recursion (b ∷ bytes) = (in_lower_digits (b / 16), (in_lower_digits (b % 16), hex_by_recursion bytes))

pub no_space_in_hex : (bytes : List ℕ) → IsField (encode_lower bytes)
no_space_in_hex bytes = record {
  each = All-from_recursion (λ b. eqb b 32 ≡ false) (encode_lower bytes) (hex_by_recursion bytes);
  ascii = All-from_ascii (encode_lower bytes) (IsAscii-encode_with lower_digits bytes ascii_digits);
}

pub ascii_joined : (w : List ℕ) (ws : List (List ℕ)) → IsField w → AllByRecursion IsField ws → All (λ b. b < 128) (joined (w ∷ ws))
ascii_joined w [] h hs = h.ascii
ascii_joined w (v ∷ vs) h hs =
    All-append (λ b. b < 128) w (32 ∷ joined (v ∷ vs)) h.ascii (All-cons (λ b. b < 128) 32 (joined (v ∷ vs)) (lit< tt) (ascii_joined v vs hs.0 hs.1))

-- a number that tells short texts apart
abbrev number_of_first : List (List ℕ) → ℕ
number_of_first [] = 0
number_of_first (w ∷ ws) = fold (λ n b. n * 256 + b) 0 w

pub other_word : (xs ys : List (List ℕ)) → eqb (number_of_first xs) (number_of_first ys) ≡ false → xs ≡ ys → ⊥
other_word xs ys t e = not_from_Decides _ (Decides-eqb (number_of_first xs) (number_of_first ys)) t (ap number_of_first e)

pub others_of : {A : Type 0} (x y : A) (xs ys : List A) → x ∷ xs ≡ y ∷ ys → xs ≡ ys
others_of x y xs ys e = cc

-- what is left behind one field, or two
pub after_one : (all : List (List ℕ)) (x y : List ℕ) (xs ys : List (List ℕ)) → all ≡ x ∷ xs → all ≡ y ∷ ys → xs ≡ ys
after_one all x y xs ys p q = others_of x y xs ys (sym p ∙ q)

pub after_two : (all : List (List ℕ)) (x y z w : List ℕ) (xs ys : List (List ℕ)) → all ≡ x ∷ y ∷ xs → all ≡ z ∷ w ∷ ys → xs ≡ ys
after_two all x y z w xs ys p q = others_of y w xs ys (others_of x z (y ∷ xs) (w ∷ ys) (sym p ∙ q))
