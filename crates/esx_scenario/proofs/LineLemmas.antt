-- Lines of a trace, field by field.
use Rattle.std.proofs.Common.{◌≡◌, ◌≢◌, ◌<◌, ◌^◌, ℕ, List, [], ◌∷◌, length, Bool, true, false, Option, Some, None, Result, Ok, Err, refl, sym, ap, ◌∙◌, codes, decimal, arith, nat_le, nat_lt, le-leb}
use Rattle.std.specs.Prelude.{◌&&◌, if◌then◌else◌, IfOk, IfSome, IfNone}
use Rattle.std.specs.Str.{bytes_eq}
use Rattle.std.proofs.lemmas.Bool.{and_parts, lt-ltb}
use Rattle.std.specs.Str.Parse.{digits_value}
use Rattle.esx_types.specs.declared.config.TheConstants.{MAX_PAGE}
use Rattle.esx_reading.specs.Fields.{fields}
use Rattle.std.proofs.lemmas.Slice.Eq.{bytes_eq-Decides}
use Rattle.std.proofs.lemmas.Fmt.{decimal_is_IsNumeral}
use borrow.Author.Tests.{ltb-true, leb-true}
use Rattle.hex.specs.Hex.{encode_lower, decode_of}
use Rattle.hex.proofs.HexLemmas.{decode_of-ok}
use Rattle.hex.specs.declared.error.FromHexError.{FromHexError}
use Rattle.esx_reading.specs.Written.{IsWritten}
use Rattle.esx_reading.proofs.HexField.{decodes}
use Rattle.esx_scenario.specs.declared.plan.TraceLine.{TraceLine}
use Rattle.esx_scenario.specs.declared.plan.TraceLine.TheVariants.{Read, Write, Ask, Lend, TakeBack}
use Rattle.esx_scenario.specs.Lines.{◌>>=◌, number_in, lower_case, bytes_in, read_in, write_in, ask_in, lend_in, take_back_in, line_in, is_within, only_within, line_of}

pub next_some : {A B : Type 0} (r : Option A) (f : A → Option B) (x : A) (s : Option B) → r ≡ Some x → f x ≡ s → (r >>= f) ≡ s
unfolding ◌>>=◌
next_some r f x s e h = rw e h

pub next_none : {A B : Type 0} (r : Option A) (f : A → Option B) → r ≡ None → (r >>= f) ≡ None
unfolding ◌>>=◌
next_none r f e = rw e refl

same_bytes : (xs : List ℕ) → bytes_eq xs xs ≡ true
same_bytes xs = (bytes_eq-Decides xs xs).1 refl

-- a test that does not pass
not_true : (b : Bool) → (b ≡ true → ⊥) → b ≡ false
not_true true h = absurd (h refl)
not_true false h = refl

other_bytes : (xs ys : List ℕ) → xs ≢ ys → bytes_eq xs ys ≡ false
other_bytes xs ys ne = not_true (bytes_eq xs ys) (λ t. ne ((bytes_eq-Decides xs ys).0 t))

pub number_found : (text : List ℕ) (n : ℕ) → n < 2 ^ 32 → text ≡ decimal n → number_in text ≡ Some n
unfolding number_in
number_found text n small e =
    let v = (decimal_is_IsNumeral n (omega (arith, small))).1 in
    rw (e, v, same_bytes (decimal n), lt-ltb n (2 ^ 32) small) refl

pub number_missing : (text : List ℕ) → ((n : ℕ) → n < 2 ^ 32 → text ≡ decimal n → ⊥) → number_in text ≡ None
unfolding number_in
number_missing text nothing =
    let n = digits_value 10 text in
    let f : (bytes_eq text (decimal n) && nat_lt n (2 ^ 32)) ≡ false =
    not_true _ (λ t. let p = and_parts (bytes_eq text (decimal n)) (nat_lt n (2 ^ 32)) t in
    nothing n (ltb-true n (2 ^ 32) p.1) ((bytes_eq-Decides text (decimal n)).0 p.0)) in
    rw f refl

bytes_found : (text bytes : List ℕ) → IsWritten bytes → text ≡ encode_lower bytes → bytes_in text ≡ Some bytes
unfolding bytes_in
bytes_found text bytes w e =
    rw (decodes text bytes w e, e, same_bytes (encode_lower bytes), le-leb 1 (length bytes) w.some, le-leb (length bytes) MAX_PAGE w.few) refl

lower_case_none : (text : List ℕ) (r : Result (List ℕ) FromHexError) → decode_of text ≡ r → ((bytes : List ℕ) → IsWritten bytes → text ≡ encode_lower bytes → ⊥) → lower_case text r ≡ None
lower_case_none text (Err e) d nothing = refl
lower_case_none text (Ok bytes) d nothing =
    let f : (bytes_eq text (encode_lower bytes) && (nat_le 1 (length bytes) && nat_le (length bytes) MAX_PAGE)) ≡ false =
    not_true _ (λ t.
    let p = and_parts (bytes_eq text (encode_lower bytes)) _ t in
    let q = and_parts (nat_le 1 (length bytes)) (nat_le (length bytes) MAX_PAGE) p.1 in
    nothing bytes (record { some = leb-true 1 (length bytes) q.0; few = leb-true (length bytes) MAX_PAGE q.1; are_bytes = (decode_of-ok text bytes d).3 })
    ((bytes_eq-Decides text (encode_lower bytes)).0 p.0)) in
    rw f refl

bytes_missing : (text : List ℕ) → ((bytes : List ℕ) → IsWritten bytes → text ≡ encode_lower bytes → ⊥) → bytes_in text ≡ None
unfolding bytes_in
bytes_missing text nothing = lower_case_none text (decode_of text) refl nothing

-- the bytes that a field was read as, or that it has none
read_as : (text : List ℕ) (found : Option (List ℕ)) → IfSome found (λ bytes. IsWritten bytes × (text ≡ encode_lower bytes))
    → IfNone found ((bytes : List ℕ) → IsWritten bytes → text ≡ encode_lower bytes → ⊥) → found ≡ bytes_in text
read_as text (Some bytes) found only = sym (bytes_found text bytes found.0 found.1)
read_as text None found only = sym (bytes_missing text only)

pub bytes_read : {E : Type 0} (text : List ℕ) (r : Result (Option (List ℕ)) E) → IfOk r (λ found. IfSome found (λ bytes. IsWritten bytes × (text ≡ encode_lower bytes)))
    → IfOk r (λ found. IfNone found ((bytes : List ℕ) → IsWritten bytes → text ≡ encode_lower bytes → ⊥)) → IfOk r (λ found. found ≡ bytes_in text)
bytes_read text (Ok read) found only = read_as text read found only
bytes_read text (Err e) found only = tt

number_by : (text : List ℕ) (v n : ℕ) (b : Bool) → (bytes_eq text (decimal v) && nat_lt v (2 ^ 32)) ≡ b → (if b then Some v else None) ≡ Some n → (n < 2 ^ 32) × (text ≡ decimal n)
number_by text v n true t e =
    let p = and_parts (bytes_eq text (decimal v)) (nat_lt v (2 ^ 32)) t in
    let same : v ≡ n = cc in
    let small : v < 2 ^ 32 = ltb-true v (2 ^ 32) p.1 in
    (omega (arith, small, same), (bytes_eq-Decides text (decimal v)).0 p.0 ∙ ap decimal same)
number_by text v n false t e = cc

-- the number that a field was read as
number_has : (text : List ℕ) (n : ℕ) → number_in text ≡ Some n → (n < 2 ^ 32) × (text ≡ decimal n)
unfolding number_in
number_has text n e = number_by text (digits_value 10 text) n (bytes_eq text (decimal (digits_value 10 text)) && nat_lt (digits_value 10 text) (2 ^ 32)) refl e

pub read_found : (fields : List (List ℕ)) (page at len : ℕ) → page < 2 ^ 32 → at < 2 ^ 32 → len < 2 ^ 32
    → fields ≡ decimal page ∷ decimal at ∷ decimal len ∷ [] → read_in fields ≡ Some (Read page at len)
unfolding read_in
read_found fields page at len p a l e =
    rw e (next_some _ _ page _ (number_found _ page p refl) (next_some _ _ at _ (number_found _ at a refl) (next_some _ _ len _ (number_found _ len l refl) refl)))

-- three fields that are not all numbers
read_by : (a b c : List ℕ) (p q r : Option ℕ) → number_in a ≡ p → number_in b ≡ q → number_in c ≡ r
    → ((page at len : ℕ) → page < 2 ^ 32 → at < 2 ^ 32 → len < 2 ^ 32 → a ∷ b ∷ c ∷ [] ≡ decimal page ∷ decimal at ∷ decimal len ∷ [] → ⊥)
    → (p >>= λ page. q >>= λ at. r >>= λ len. Some (Read page at len)) ≡ None
unfolding ◌>>=◌
read_by a b c None q r ea eb ec nothing = refl
read_by a b c (Some n) None r ea eb ec nothing = refl
read_by a b c (Some n) (Some m) None ea eb ec nothing = refl
read_by a b c (Some n) (Some m) (Some k) ea eb ec nothing =
    let x = number_has a n ea in let y = number_has b m eb in let z = number_has c k ec in
    absurd (nothing n m k x.0 y.0 z.0 (rw (x.1, y.1, z.1) refl))

pub read_missing : (fields : List (List ℕ))
    → ((page at len : ℕ) → page < 2 ^ 32 → at < 2 ^ 32 → len < 2 ^ 32 → fields ≡ decimal page ∷ decimal at ∷ decimal len ∷ [] → ⊥) → read_in fields ≡ None
unfolding read_in
read_missing [] nothing = refl
read_missing (a ∷ []) nothing = refl
read_missing (a ∷ b ∷ []) nothing = refl
read_missing (a ∷ b ∷ c ∷ []) nothing = read_by a b c (number_in a) (number_in b) (number_in c) refl refl refl nothing
read_missing (a ∷ b ∷ c ∷ d ∷ rest) nothing = refl

-- two numbers and what the bytes of a third field are
pub write_is : (fields : List (List ℕ)) (page at : ℕ) (bytes : List ℕ) → page < 2 ^ 32 → at < 2 ^ 32 → fields ≡ decimal page ∷ decimal at ∷ bytes ∷ []
    → write_in fields ≡ (bytes_in bytes >>= λ bytes. Some (Write page at bytes))
unfolding write_in
write_is fields page at bytes p a e =
    rw e (next_some _ _ page _ (number_found _ page p refl) (next_some _ _ at _ (number_found _ at a refl) refl))

-- three fields of which not both of the first two are numbers
write_by : (a b c : List ℕ) (p q : Option ℕ) → number_in a ≡ p → number_in b ≡ q
    → ((page at : ℕ) (bytes : List ℕ) → page < 2 ^ 32 → at < 2 ^ 32 → a ∷ b ∷ c ∷ [] ≡ decimal page ∷ decimal at ∷ bytes ∷ [] → ⊥)
    → (p >>= λ page. q >>= λ at. bytes_in c >>= λ bytes. Some (Write page at bytes)) ≡ None
unfolding ◌>>=◌
write_by a b c None q ea eb nothing = refl
write_by a b c (Some n) None ea eb nothing = refl
write_by a b c (Some n) (Some m) ea eb nothing =
    let x = number_has a n ea in let y = number_has b m eb in
    absurd (nothing n m c x.0 y.0 (rw (x.1, y.1) refl))

pub write_missing : (fields : List (List ℕ))
    → ((page at : ℕ) (bytes : List ℕ) → page < 2 ^ 32 → at < 2 ^ 32 → fields ≡ decimal page ∷ decimal at ∷ bytes ∷ [] → ⊥) → write_in fields ≡ None
unfolding write_in
write_missing [] nothing = refl
write_missing (a ∷ []) nothing = refl
write_missing (a ∷ b ∷ []) nothing = refl
write_missing (a ∷ b ∷ c ∷ []) nothing = write_by a b c (number_in a) (number_in b) refl refl nothing
write_missing (a ∷ b ∷ c ∷ d ∷ rest) nothing = refl

pub ask_alone : (fields : List (List ℕ)) → fields ≡ [] → ask_in fields ≡ Some Ask
unfolding ask_in
ask_alone fields e = rw e refl

pub ask_other : (fields : List (List ℕ)) → fields ≢ [] → ask_in fields ≡ None
unfolding ask_in
ask_other [] ne = absurd (ne refl)
ask_other (a ∷ rest) ne = refl

pub lend_found : (fields : List (List ℕ)) (page : ℕ) → page < 2 ^ 32 → fields ≡ decimal page ∷ [] → lend_in fields ≡ Some (Lend page)
unfolding lend_in
lend_found fields page p e = rw e (next_some _ _ page _ (number_found _ page p refl) refl)

pub lend_missing : (fields : List (List ℕ)) → ((page : ℕ) → page < 2 ^ 32 → fields ≡ decimal page ∷ [] → ⊥) → lend_in fields ≡ None
unfolding lend_in
lend_missing [] nothing = refl
lend_missing (a ∷ []) nothing = next_none (number_in a) _ (number_missing a (λ n small e. nothing n small (rw e refl)))
lend_missing (a ∷ b ∷ rest) nothing = refl

pub take_back_found : (fields : List (List ℕ)) (page : ℕ) → page < 2 ^ 32 → fields ≡ decimal page ∷ [] → take_back_in fields ≡ Some (TakeBack page)
unfolding take_back_in
take_back_found fields page p e = rw e (next_some _ _ page _ (number_found _ page p refl) refl)

pub take_back_missing : (fields : List (List ℕ)) → ((page : ℕ) → page < 2 ^ 32 → fields ≡ decimal page ∷ [] → ⊥) → take_back_in fields ≡ None
unfolding take_back_in
take_back_missing [] nothing = refl
take_back_missing (a ∷ []) nothing = next_none (number_in a) _ (number_missing a (λ n small e. nothing n small (rw e refl)))
take_back_missing (a ∷ b ∷ rest) nothing = refl

pub line_of_none : (all : List (List ℕ)) → all ≡ [] → line_in all ≡ None
unfolding line_in
line_of_none all e = rw e refl

pub line_of_read : (all rest : List (List ℕ)) (verb : List ℕ) → all ≡ verb ∷ rest → verb ≡ codes "read" → line_in all ≡ read_in rest
unfolding line_in
line_of_read all rest verb e v = rw (e, v) refl

pub line_of_write : (all rest : List (List ℕ)) (verb : List ℕ) → all ≡ verb ∷ rest → verb ≡ codes "write" → line_in all ≡ write_in rest
unfolding line_in
line_of_write all rest verb e v = rw (e, v) refl

pub line_of_ask : (all rest : List (List ℕ)) (verb : List ℕ) → all ≡ verb ∷ rest → verb ≡ codes "ask" → line_in all ≡ ask_in rest
unfolding line_in
line_of_ask all rest verb e v = rw (e, v) refl

pub line_of_lend : (all rest : List (List ℕ)) (verb : List ℕ) → all ≡ verb ∷ rest → verb ≡ codes "lend" → line_in all ≡ lend_in rest
unfolding line_in
line_of_lend all rest verb e v = rw (e, v) refl

pub line_of_take_back : (all rest : List (List ℕ)) (verb : List ℕ) → all ≡ verb ∷ rest → verb ≡ codes "takeback" → line_in all ≡ take_back_in rest
unfolding line_in
line_of_take_back all rest verb e v = rw (e, v) refl

pub line_of_other : (all rest : List (List ℕ)) (verb : List ℕ) → all ≡ verb ∷ rest → verb ≢ codes "read" → verb ≢ codes "write" → verb ≢ codes "ask" → verb ≢ codes "lend"
    → verb ≢ codes "takeback" → line_in all ≡ None
unfolding line_in
line_of_other all rest verb e a b c d t = rw (e, other_bytes verb _ a, other_bytes verb _ b, other_bytes verb _ c, other_bytes verb _ d, other_bytes verb _ t) refl

pub text_none : (size pages : ℕ) (text : List ℕ) → line_in (fields text) ≡ None → line_of size pages text ≡ None
unfolding line_of
text_none size pages text e = next_none (line_in (fields text)) (only_within size pages) e

pub text_within : (size pages : ℕ) (text : List ℕ) (line : TraceLine) → line_in (fields text) ≡ Some line → is_within size pages line ≡ true → line_of size pages text ≡ Some line
unfolding line_of only_within
text_within size pages text line e w = next_some (line_in (fields text)) (only_within size pages) line (Some line) e (rw w refl)

pub text_past : (size pages : ℕ) (text : List ℕ) (line : TraceLine) → line_in (fields text) ≡ Some line → is_within size pages line ≡ false → line_of size pages text ≡ None
unfolding line_of only_within
text_past size pages text line e w = next_some (line_in (fields text)) (only_within size pages) line None e (rw w refl)
