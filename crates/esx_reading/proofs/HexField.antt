-- What a field in hex can be.
use Rattle.std.proofs.Common.{◌≡◌, ◌<◌, ◌+◌, ◌*◌, ◌/◌, ◌%◌, ℕ, zero, suc, List, [], ◌∷◌, ◌++◌, length, take, drop, get_or, slice_index, append-nil, refl, ap, sym, subst, ◌∙◌, append_assoc, arith, lit<, Ok, ◌≤◌, Option, Some, None}
use Rattle.std.specs.Prelude.{IfSome}
use Rattle.std.proofs.Math.Seq.{take-length}
use Rattle.std.proofs.lemmas.List.{length-take-le, take-append-drop}
use Rattle.hex.specs.Hex.{encode_lower, encode_with, decode_of, lower_digits, IsBytes}
use Rattle.hex.proofs.HexLemmas.{decode_of-encode_lower, length-encode_with}
use Rattle.esx_reading.specs.declared.written.TheConstants.{MAX_DIGITS}
use Rattle.esx_reading.specs.Written.{IsWritten}

pub length_of_hex : (field bytes : List ℕ) → field ≡ encode_lower bytes → length field ≡ 2 * length bytes
length_of_hex field bytes e = ap length e ∙ length-encode_with lower_digits bytes

pub decodes : (field bytes : List ℕ) → IsWritten bytes → field ≡ encode_lower bytes → decode_of field ≡ Ok bytes
decodes field bytes w e = ap decode_of e ∙ decode_of-encode_lower bytes w.are_bytes

-- the byte of two digits
pub hex_of_pair : (high low h l : ℕ) → l < 16 → high ≡ slice_index lower_digits h → low ≡ slice_index lower_digits l
    → encode_lower ((h * 16 + l) ∷ []) ≡ high ∷ low ∷ []
unfolding encode_with
hex_of_pair high low h l small e f =
    let first : (h * 16 + l) / 16 ≡ h = omega (arith, small) in
    let second : (h * 16 + l) % 16 ≡ l = omega (arith, small) in
    rw (first, second, e, f) refl

pub pair_of_hex : (high low byte : ℕ) → encode_lower (byte ∷ []) ≡ high ∷ low ∷ [] → (high ≡ slice_index lower_digits (byte / 16)) × (low ≡ slice_index lower_digits (byte % 16))
unfolding encode_with
pair_of_hex high low byte e = (cc, cc)

-- bytes that digits in front were read as, and the digits that are left
pub record HasRead (bytes rest digits : List ℕ) : Type 0 where
  pub are_bytes : IsBytes bytes
  pub is : encode_lower bytes ++ rest ≡ digits

pub read_none : (bytes digits : List ℕ) → bytes ≡ [] → HasRead bytes digits digits
unfolding encode_with
read_none bytes digits e = rw e (record { are_bytes = λ i. lit< tt; is = refl })

hex_of_both : (bytes more : List ℕ) → encode_lower (bytes ++ more) ≡ encode_lower bytes ++ encode_lower more
unfolding encode_with
hex_of_both [] more = refl
hex_of_both (b ∷ bytes) more = ap (λ v. slice_index lower_digits (b / 16) ∷ slice_index lower_digits (b % 16) ∷ v) (hex_of_both bytes more)

both_are_bytes : (bytes more : List ℕ) → IsBytes bytes → IsBytes more → (i : ℕ) → slice_index (bytes ++ more) i < 256
both_are_bytes [] more are more_are i = more_are i
both_are_bytes (b ∷ bytes) more are more_are zero = are zero
both_are_bytes (b ∷ bytes) more are more_are (suc i) = both_are_bytes bytes more (λ j. are (suc j)) more_are i

pub read_more : (n : ℕ) (bytes more rest front later digits : List ℕ) → HasRead bytes rest digits → IsBytes more → encode_lower more ≡ front
    → front ≡ take n rest → later ≡ drop n rest → HasRead (bytes ++ more) later digits
read_more n bytes more rest front later digits so_far are e front_is later_is = record {
  are_bytes = both_are_bytes bytes more so_far.are_bytes are;
  is =
      ap (λ l. l ++ later) (hex_of_both bytes more) ∙ append_assoc (encode_lower bytes) (encode_lower more) later
      ∙ ap (λ l. encode_lower bytes ++ (l ++ later)) (e ∙ front_is) ∙ ap (λ l. encode_lower bytes ++ (take n rest ++ l)) later_is
      ∙ ap (λ l. encode_lower bytes ++ l) (take-append-drop n rest) ∙ so_far.is;
}

-- no digits are left
read_all : (bytes digits : List ℕ) → HasRead bytes [] digits → IsBytes bytes × (digits ≡ encode_lower bytes)
read_all bytes digits so_far = (so_far.are_bytes, sym so_far.is ∙ append-nil (encode_lower bytes))

pub read_whole : (at : ℕ) (bytes rest digits : List ℕ) → HasRead (take at bytes) rest digits → 2 * at + length rest ≡ length digits → length digits ≡ 2 * length bytes
    → length rest < 2 → IsBytes bytes × (digits ≡ encode_lower bytes)
read_whole at bytes [] digits so_far place room few =
    let end : at ≡ length bytes = omega (arith, place, room) in
    let whole : take at bytes ≡ bytes = ap (λ k. take k bytes) end ∙ take-length bytes in
    subst (λ l. IsBytes l × (digits ≡ encode_lower l)) whole (read_all (take at bytes) digits so_far)
read_whole at bytes (d ∷ []) digits so_far place room few = absurd (omega (arith, place, room))
read_whole at bytes (d ∷ e ∷ rest) digits so_far place room few = absurd (omega (arith, few))

-- what is left of the digits of some bytes are those of the bytes that are left
left : (bytes rest other : List ℕ) → encode_lower bytes ++ rest ≡ encode_lower other → rest ≡ encode_lower (drop (length bytes) other)
unfolding encode_with
left [] rest other e = e
left (b ∷ bytes) rest [] e = cc e
left (b ∷ bytes) rest (o ∷ other) e = let tails : encode_lower bytes ++ rest ≡ encode_lower other = cc e in left bytes rest other tails

hex_of_front : (n : ℕ) (bytes : List ℕ) → encode_lower (take n bytes) ≡ take (2 * n) (encode_lower bytes)
unfolding encode_with
hex_of_front zero bytes = refl
hex_of_front (suc n) [] = let next : 2 * suc n ≡ suc (suc (2 * n)) = omega arith in rw next refl
hex_of_front (suc n) (b ∷ bytes) =
    let next : 2 * suc n ≡ suc (suc (2 * n)) = omega arith in
    rw next (ap (λ v. slice_index lower_digits (b / 16) ∷ slice_index lower_digits (b % 16) ∷ v) (hex_of_front n bytes))

back_are_bytes : (k : ℕ) (bytes : List ℕ) → IsBytes bytes → (i : ℕ) → slice_index (drop k bytes) i < 256
back_are_bytes zero bytes are i = are i
back_are_bytes (suc k) [] are i = lit< tt
back_are_bytes (suc k) (b ∷ bytes) are i = back_are_bytes k bytes (λ j. are (suc j)) i

front_are_bytes : (n : ℕ) (bytes : List ℕ) → IsBytes bytes → (i : ℕ) → slice_index (take n bytes) i < 256
front_are_bytes zero bytes are i = lit< tt
front_are_bytes (suc n) [] are i = lit< tt
front_are_bytes (suc n) (b ∷ bytes) are zero = are zero
front_are_bytes (suc n) (b ∷ bytes) are (suc i) = front_are_bytes n bytes (λ j. are (suc j)) i

-- the next of the bytes, if the digits are those of any
pub next_bytes : (n : ℕ) (bytes rest front digits other : List ℕ) → HasRead bytes rest digits → front ≡ take (2 * n) rest → IsBytes other → digits ≡ encode_lower other
    → IsBytes (take n (drop (length bytes) other)) × (encode_lower (take n (drop (length bytes) other)) ≡ front)
next_bytes n bytes rest front digits other so_far front_is are e = (
  front_are_bytes n (drop (length bytes) other) (back_are_bytes (length bytes) other are),
  hex_of_front n (drop (length bytes) other) ∙ ap (take (2 * n)) (sym (left bytes rest other (so_far.is ∙ e))) ∙ sym front_is,
)

one_byte : (bytes front : List ℕ) → length front ≡ 2 → IsBytes bytes → encode_lower (take 1 bytes) ≡ front
    → (byte : ℕ) × (byte < 256) × (encode_lower (byte ∷ []) ≡ get_or front 0 0 ∷ get_or front 1 0 ∷ [])
unfolding encode_with
one_byte [] front long are e = absurd (omega (arith, long, ap length e))
one_byte (b ∷ bytes) front long are e = (b, are 0, rw (← e) refl)

pub next_byte : (bytes rest front digits other : List ℕ) → HasRead bytes rest digits → front ≡ take 2 rest → length front ≡ 2 → IsBytes other → digits ≡ encode_lower other
    → (byte : ℕ) × (byte < 256) × (encode_lower (byte ∷ []) ≡ get_or front 0 0 ∷ get_or front 1 0 ∷ [])
next_byte bytes rest front digits other so_far front_is long are e =
    let next = next_bytes 1 bytes rest front digits other so_far front_is are e in
    one_byte (drop (length bytes) other) front long (back_are_bytes (length bytes) other are) next.1

-- so many digits in front
pub length_front : (n : ℕ) (rest front later : List ℕ) → front ≡ take n rest → length later + n ≡ length rest → length front ≡ n
length_front n rest front later e long = ap length e ∙ length-take-le n rest (omega (arith, long))

-- the two digits of a pair
pair_is : (pair : List ℕ) → length pair ≡ 2 → get_or pair 0 0 ∷ get_or pair 1 0 ∷ [] ≡ pair
pair_is [] long = absurd (omega (arith, long))
pair_is (h ∷ []) long = absurd (omega (arith, long))
pair_is (h ∷ l ∷ []) long = refl
pair_is (h ∷ l ∷ m ∷ more) long = absurd (omega (arith, long))

is_byte : (byte : ℕ) → byte < 256 → (i : ℕ) → slice_index (byte ∷ []) i < 256
is_byte byte small zero = small
is_byte byte small (suc i) = lit< tt

pub read_pair : (bytes : List ℕ) (byte : ℕ) (rest pair later digits : List ℕ) → HasRead bytes rest digits → byte < 256
    → encode_lower (byte ∷ []) ≡ get_or pair 0 0 ∷ get_or pair 1 0 ∷ [] → pair ≡ take 2 rest → later ≡ drop 2 rest → length later + 2 ≡ length rest
    → HasRead (bytes ++ byte ∷ []) later digits
read_pair bytes byte rest pair later digits so_far small e pair_at later_at long =
    read_more 2 bytes (byte ∷ []) rest pair later digits so_far (is_byte byte small) (e ∙ pair_is pair (length_front 2 rest pair later pair_at long)) pair_at later_at

-- bytes of digits that are few, and not none
pub few_written : (text digits : List ℕ) (r : Option (List ℕ)) → digits ≡ text → (length text ≡ 0 → ⊥) → length text ≤ MAX_DIGITS
    → IfSome r (λ bytes. IsBytes bytes × (digits ≡ encode_lower bytes)) → IfSome r (λ bytes. IsWritten bytes × (text ≡ encode_lower bytes))
few_written text digits None same some few found = tt
few_written text digits (Some bytes) same some few found =
    let is = sym same ∙ found.1 in
    let h = length_of_hex text bytes is in
    (record { some = omega (arith, h, some); few = omega (arith, h, few); are_bytes = found.0 }, is)
