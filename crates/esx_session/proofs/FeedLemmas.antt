-- Neither a line feed nor a carriage return stands in the lines of a session.
use Rattle.std.proofs.Common.{◌≡◌, ◌<◌, ◌≤◌, ◌+◌, suc, zero, ◌^◌, ◌/◌, ◌%◌, ℕ, List, Bool, [], ◌∷◌, ◌++◌, length, get_or, arith, refl, sym, ap, ◌∙◌, true, false, decimal, nat_le, nat_lt, cond}
use Rattle.std.specs.Prelude.{not, ◌&&◌, map, Option, None, Some}
use Rattle.std.specs.List.{AllByRecursion, list_all}
use Rattle.std.specs.Fmt.{digits, digits_onto, digit_glyph}
use Rattle.std.proofs.Math.Dec.{eqb}
use Rattle.std.proofs.lemmas.Bool.{and_parts}
use Rattle.std.proofs.lemmas.List.{get_or_past}
use Rattle.std.proofs.lemmas.Fmt.{decimal_by_steps}
use Rattle.hex.specs.Hex.{encode_lower, encode_with, lower_digits}
use Rattle.esx_reading.proofs.FieldLemmas.{no_match}
use Rattle.esx_events.specs.Names.{IsName, is_lower, is_name_byte, starts_lower}
use Rattle.esx_events.specs.declared.event.Event.{Event}
use Rattle.esx_events.specs.declared.call.Call.{Call}
use Rattle.esx_events.specs.declared.name.TheConstants.{MAX_NAME}
use Rattle.esx_reading.specs.Fields.{joined}
use Rattle.esx_words.specs.declared.verbs.Verb.{Verb}
use Rattle.esx_words.specs.declared.verbs.Verb.TheVariants as verbs
use Rattle.esx_words.specs.Kinds.{Kind, Kinds, Value, Values, value_word, value_words, IsValue, AreValues, perhaps_number}
use Rattle.esx_words.specs.Kinds.Kind.{Machine, Number, Word, Hex, Name}
use Rattle.esx_words.specs.Kinds.Kinds.{End, Then, PerhapsNumber, Words}
use Rattle.esx_words.specs.Verbs.{verb_word}
use Rattle.esx_words.proofs.VerbLemmas.{verb_bytes}
use Rattle.esx_words.specs.Commands.{Form, verb_form, verb, operands, Operands, operand_words, AreOperands, spelling, IsInRange, event_verb, event_kinds, event_values, event_words, IsEventInRange, list_words, with_semicolon}
use Rattle.esx_words.specs.Commands.Form.{Plain, Tried}
use Rattle.esx_types.specs.declared.version.Version.{Version}
use Rattle.esx_session.specs.Reading.{HasNoFeed, SpellsCall}

-- a byte within a line
abbrev pub stays : ℕ → Bool
stays b = not (eqb b 10) && not (eqb b 13)

abbrev pub AllStay : List ℕ → Type 0
AllStay = AllByRecursion (λ b. stays b ≡ true)

pub stays_above : (b : ℕ) → 14 ≤ b → stays b ≡ true
stays_above b h = rw (no_match b 10 (λ e. omega (arith, h, e)), no_match b 13 (λ e. omega (arith, h, e))) refl

pub both_stay : (x y : List ℕ) → AllStay x → AllStay y → AllStay (x ++ y)
both_stay [] y p q = q
both_stay (b ∷ x) y p q = (p.0, both_stay x y p.1 q)

no_feed_byte : (b : ℕ) → stays b ≡ true → b ≡ 10 → ⊥
no_feed_byte b h e = let no : false ≡ true = sym (ap stays e) ∙ h in cc

no_return_byte : (b : ℕ) → stays b ≡ true → b ≡ 13 → ⊥
no_return_byte b h e = let no : false ≡ true = sym (ap stays e) ∙ h in cc

pub no_feed : (text : List ℕ) → AllStay text → HasNoFeed text
no_feed [] h = tt
no_feed (b ∷ text) h = (no_feed_byte b h.0, no_feed text h.1)

pub no_return_ends : (text front : List ℕ) → AllStay text → text ≡ front ++ 13 ∷ [] → ⊥
no_return_ends [] [] h e = cc
no_return_ends [] (c ∷ front) h e = cc
no_return_ends (b ∷ text) [] h e = no_return_byte b h.0 (cc)
no_return_ends (b ∷ text) (c ∷ front) h e = no_return_ends text front h.1 (cc)

pub stay_from : (text : List ℕ) → HasNoFeed text → AllByRecursion (λ b. b ≡ 13 → ⊥) text → AllStay text
stay_from [] p q = tt
stay_from (b ∷ text) p q = (rw (no_match b 10 p.0, no_match b 13 q.0) refl, stay_from text p.1 q.1)

-- texts of known bytes
pub known_stay : (text : List ℕ) → list_all stays text ≡ true → AllStay text
known_stay [] e = tt
known_stay (b ∷ text) e = let parts = and_parts (stays b) (list_all stays text) e in (parts.0, known_stay text parts.1)

glyph_above : (d : ℕ) (test : Bool) → 14 ≤ cond test (48 + d) (87 + d)
glyph_above d true = omega arith
glyph_above d false = omega arith

glyph_stays : (d : ℕ) → stays (digit_glyph false d) ≡ true
glyph_stays d = stays_above (digit_glyph false d) (glyph_above d (nat_lt d 10))

either_stays : (test : Bool) (x y : List ℕ) → AllStay x → AllStay y → AllStay (cond test x y)
either_stays true x y p q = p
either_stays false x y p q = q

digits_stay : (k n : ℕ) (acc : List ℕ) → AllStay acc → AllStay (digits_onto k 10 false n acc)
digits_stay zero n acc h = h
digits_stay (suc k) n acc h = either_stays (eqb (n / 10) 0) (digit_glyph false (n % 10) ∷ acc) (digits_onto k 10 false (n / 10) (digit_glyph false (n % 10) ∷ acc)) (glyph_stays (n % 10), h)
    (digits_stay k (n / 10) (digit_glyph false (n % 10) ∷ acc) (glyph_stays (n % 10), h))

pub decimal_stays : (n : ℕ) → AllStay (decimal n)
unfolding digits
decimal_stays n = digits_stay 64 n [] tt

hex_digit_stays : (n : ℕ) (digits : List ℕ) → AllStay digits → stays (get_or digits n 0) ≡ true
hex_digit_stays n [] h = ap stays (get_or_past {X = ℕ} [] n 0 (omega arith))
hex_digit_stays zero (d ∷ digits) h = h.0
hex_digit_stays (suc n) (d ∷ digits) h = hex_digit_stays n digits h.1

hex_stay : (bytes : List ℕ) → AllStay (encode_lower bytes)
unfolding encode_with
hex_stay [] = tt
hex_stay (b ∷ bytes) = (hex_digit_stays (b / 16) lower_digits (known_stay lower_digits refl), (hex_digit_stays (b % 16) lower_digits (known_stay lower_digits refl), hex_stay bytes))

name_byte : (b : ℕ) → is_name_byte b ≡ true → stays b ≡ true
name_byte b h = stays_above b (grind (arith))

name_bytes : (bs : List ℕ) → list_all is_name_byte bs ≡ true → AllStay bs
name_bytes [] h = tt
name_bytes (b ∷ bs) h = let p = and_parts (is_name_byte b) (list_all is_name_byte bs) h in (name_byte b p.0, name_bytes bs p.1)

name_stays : (name : List ℕ) → IsName name → AllStay name
name_stays name h = name_bytes name (and_parts (starts_lower name && nat_le (length name) MAX_NAME) (list_all is_name_byte name) h).1

value_stays : (kind : Kind) (x : Value kind) → IsValue kind x → AllStay (value_word kind x)
value_stays Machine n r = decimal_stays n
value_stays Number n r = decimal_stays n
value_stays Word n r = decimal_stays n
value_stays Hex bytes r = hex_stay bytes
value_stays Name name r = name_stays name r

words_stay : (ws : List ℕ) → AllByRecursion (λ w. w < 2 ^ 64) ws → AllByRecursion AllStay (map decimal ws)
words_stay [] r = tt
words_stay (w ∷ ws) r = (decimal_stays w, words_stay ws r.1)

perhaps_stays : (n : Option ℕ) → AllByRecursion AllStay (perhaps_number n)
perhaps_stays None = tt
perhaps_stays (Some n) = (decimal_stays n, tt)

values_stay : (kinds : Kinds) (x : Values kinds) → AreValues kinds x → AllByRecursion AllStay (value_words kinds x)
values_stay End tt r = tt
values_stay (Then kind kinds) (x, xs) r = (value_stays kind x r.0, values_stay kinds xs r.1)
values_stay PerhapsNumber n r = perhaps_stays n
values_stay Words ws r = words_stay ws r.1

letter_stays : (b : ℕ) → is_lower b ≡ true → stays b ≡ true
letter_stays b h = grind (arith)

verb_stays : (v : Verb) → AllStay (verb_word v)
verb_stays v = known_stay (verb_word v) (verb_bytes stays letter_stays v)

pub joined_stay : (ws : List (List ℕ)) → AllByRecursion AllStay ws → AllStay (joined ws)
joined_stay [] h = tt
joined_stay (w ∷ []) h = h.0
joined_stay (w ∷ v ∷ vs) h = both_stay w (32 ∷ joined (v ∷ vs)) h.0 (refl, joined_stay (v ∷ vs) h.1)

semicolon_stay : (ws : List (List ℕ)) → AllByRecursion AllStay ws → AllByRecursion AllStay (with_semicolon ws)
semicolon_stay [] h = tt
semicolon_stay (w ∷ []) h = (both_stay w (59 ∷ []) h.0 (refl, tt), tt)
semicolon_stay (w ∷ v ∷ vs) h = (h.0, semicolon_stay (v ∷ vs) h.1)

both_words : (xs ys : List (List ℕ)) → AllByRecursion AllStay xs → AllByRecursion AllStay ys → AllByRecursion AllStay (xs ++ ys)
both_words [] ys p q = q
both_words (x ∷ xs) ys p q = (p.0, both_words xs ys p.1 q)

event_stays : (e : Event) → IsEventInRange e → AllByRecursion AllStay (event_words e)
event_stays e r = (verb_stays (verbs.Event (event_verb e)), values_stay (event_kinds (event_verb e)) (event_values e) r)

list_stay : (events : List Event) → AllByRecursion IsEventInRange events → AllByRecursion AllStay (list_words events)
list_stay [] p = tt
list_stay (e ∷ []) p = event_stays e p.0
list_stay (e ∷ n ∷ events) p = both_words (with_semicolon (event_words e)) (list_words (n ∷ events)) (semicolon_stay (event_words e) (event_stays e p.0)) (list_stay (n ∷ events) p.1)

operands_stay : (form : Form) (x : Operands form) → AreOperands form x → AllByRecursion AllStay (operand_words form x)
operands_stay (Plain kinds) x r = values_stay kinds x r
operands_stay Tried events r = list_stay events r.1

pub spelling_stays : (call : Call) → IsInRange call → AllStay (spelling call)
spelling_stays call r = joined_stay (verb_word (verb call) ∷ operand_words (verb_form (verb call)) (operands call)) (verb_stays (verb call), operands_stay (verb_form (verb call)) (operands call) r)

pub call_line_stays : (caller : ℕ) (call : Call) → IsInRange call → AllStay (decimal caller ++ 32 ∷ spelling call)
call_line_stays caller call r = both_stay (decimal caller) (32 ∷ spelling call) (decimal_stays caller) (refl, spelling_stays call r)

pub call_stays : (version : Version) (line : List ℕ) (caller : ℕ) (call : Call) → SpellsCall version line caller call → AllStay line
call_stays version line caller call is = rw is.spelled (call_line_stays caller call is.range)

-- a number begins with a digit
pub first_digit : (n : ℕ) → n < 2 ^ 64 → (d : ℕ) × (ds : List ℕ) × (decimal n ≡ d ∷ ds) × (48 ≤ d) × (d ≤ 57)
first_digit n small = decimal_by_steps (λ n bs. (d : ℕ) × (ds : List ℕ) × (bs ≡ d ∷ ds) × (48 ≤ d) × (d ≤ 57))
    (λ n lt. (48 + n, [], refl, omega arith, omega arith))
    (λ n ds ge h. (h.0, h.1 ++ (48 + n % 10) ∷ [], ap (λ t. t ++ (48 + n % 10) ∷ []) h.2, h.3, h.4))
    n small
