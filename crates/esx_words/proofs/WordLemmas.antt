-- Words of commands: fields without a semicolon.
use Rattle.std.proofs.Common.{◌≡◌, ◌<◌, ◌^◌, ◌/◌, ◌%◌, inl, inr, ℕ, List, [], ◌∷◌, length, get_or, arith, refl, ap, true, false, nat_lt, nat_le, decimal}
use Rattle.std.specs.Prelude.{Bool, not, ◌&&◌, map, Option, None, Some}
use Rattle.std.specs.List.{All, AllByRecursion, list_all}
use Rattle.std.proofs.Math.Dec.{eqb}
use borrow.Author.Tests.{ltb-true}
use Rattle.std.proofs.lemmas.Bool.{cases_lt, and_parts}
use Rattle.std.proofs.lemmas.List.{get_or_past}
use Rattle.std.proofs.lemmas.List.Elements.{All-from_get_or, All-from_recursion, All-get_or, All-weaker, All-append, All-cons}
use Rattle.std.proofs.lemmas.List.Sums.{AllPass-from_list_all}
use Rattle.std.proofs.lemmas.Str.Parse.{not_in_digits, numerals_by_value, tells_digits}
use Rattle.std.proofs.lemmas.Fmt.{digits_decimal}
use Rattle.hex.specs.Hex.{encode_lower, encode_with, lower_digits}
use Rattle.esx_events.specs.Names.{IsName, is_lower, is_name_byte, starts_lower}
use Rattle.esx_events.specs.declared.event.Event.{Event}
use Rattle.esx_events.specs.declared.name.TheConstants.{MAX_NAME}
use Rattle.esx_reading.specs.Fields.{joined}
use Rattle.esx_reading.proofs.FieldLemmas.{IsField, no_match, no_space_in_decimal, no_space_in_hex}
use Rattle.esx_words.specs.declared.verbs.Verb.{Verb}
use Rattle.esx_words.specs.declared.verbs.Verb.TheVariants as verbs
use Rattle.esx_words.specs.Kinds.{Kind, Kinds, Value, Values, value_word, value_words, IsValue, AreValues, perhaps_number, IsPerhapsNumber}
use Rattle.esx_words.specs.Kinds.Kind.{Machine, Number, Word, Hex, Name}
use Rattle.esx_words.specs.Kinds.Kinds.{End, Then, PerhapsNumber, Words}
use Rattle.esx_words.specs.Verbs.{event_word, verb_word}
use Rattle.esx_words.proofs.VerbLemmas.{verb_bytes}
use Rattle.esx_words.specs.Commands.{event_verb, event_kinds, event_values, IsEventInRange, event_text}

-- no semicolon stands in the text
abbrev pub LacksSemicolon : List ℕ → Type 0
LacksSemicolon text = All (λ b. eqb b 59 ≡ false) text

-- a field in which no semicolon stands
pub record IsWord (text : List ℕ) : Type 0 where
  pub field : IsField text
  pub plain : LacksSemicolon text

-- an ASCII byte that is no space and no semicolon
abbrev is_plain : ℕ → Bool
is_plain b = (not (eqb b 32) && nat_lt b 128) && not (eqb b 59)

not_true : (b : Bool) → not b ≡ true → b ≡ false
not_true true e = cc
not_true false e = refl

no_space : (b : ℕ) → is_plain b ≡ true → eqb b 32 ≡ false
no_space b t = not_true (eqb b 32) (and_parts _ _ (and_parts _ _ t).0).0

is_ascii : (b : ℕ) → is_plain b ≡ true → b < 128
is_ascii b t = ltb-true b 128 (and_parts _ _ (and_parts _ _ t).0).1

no_semicolon : (b : ℕ) → is_plain b ≡ true → eqb b 59 ≡ false
no_semicolon b t = not_true (eqb b 59) (and_parts _ _ t).1

-- a text of known bytes
known_word : (text : List ℕ) → list_all is_plain text ≡ true → IsWord text
known_word text e =
    let each = AllPass-from_list_all is_plain text e in
    record {
      field = record {
        each = All-weaker (λ b. is_plain b ≡ true) (λ b. eqb b 32 ≡ false) no_space text each;
        ascii = All-weaker (λ b. is_plain b ≡ true) (λ b. b < 128) is_ascii text each;
      };
      plain = All-weaker (λ b. is_plain b ≡ true) (λ b. eqb b 59 ≡ false) no_semicolon text each;
    }

decimal_is_word : (n : ℕ) → n < 2 ^ 64 → IsWord (decimal n)
decimal_is_word n small = record {
  field = no_space_in_decimal n small;
  plain = All-from_get_or (λ b. eqb b 59 ≡ false) (decimal n) 0
      (λ i lt. no_match (get_or (decimal n) i 0) 59
      (not_in_digits (numerals_by_value _ tells_digits) (decimal n) 59 (digits_decimal (numerals_by_value _ tells_digits) n small) (λ r. omega (arith, r)) i lt));
}

-- each digit of a hex table is none, wherever it is looked up
no_semicolon_digit : (n : ℕ) → eqb (get_or lower_digits n 0) 59 ≡ false
no_semicolon_digit n = elim (cases_lt n (length lower_digits)) [
  | inl within ↦ not_true (eqb (get_or lower_digits n 0) 59)
      (All-get_or (λ b. not (eqb b 59) ≡ true) lower_digits n 0 within (AllPass-from_list_all (λ b. not (eqb b 59)) lower_digits refl))
  | inr past ↦ ap (λ x. eqb x 59) (get_or_past lower_digits n 0 past)
]

hex_by_recursion : (bytes : List ℕ) → AllByRecursion (λ b. eqb b 59 ≡ false) (encode_lower bytes)
unfolding encode_with
hex_by_recursion [] = tt
hex_by_recursion (b ∷ bytes) = (no_semicolon_digit (b / 16), (no_semicolon_digit (b % 16), hex_by_recursion bytes))

hex_is_word : (bytes : List ℕ) → IsWord (encode_lower bytes)
hex_is_word bytes = record {
  field = no_space_in_hex bytes;
  plain = All-from_recursion (λ b. eqb b 59 ≡ false) (encode_lower bytes) (hex_by_recursion bytes);
}

name_byte : (b : ℕ) → is_name_byte b ≡ true → is_plain b ≡ true
name_byte b h = grind (arith)

name_bytes : (bs : List ℕ) → list_all is_name_byte bs ≡ true → list_all is_plain bs ≡ true
name_bytes [] h = refl
name_bytes (b ∷ bs) h = let p = and_parts (is_name_byte b) (list_all is_name_byte bs) h in rw (name_byte b p.0, name_bytes bs p.1) refl

name_is_word : (name : List ℕ) → IsName name → IsWord name
name_is_word name h =
    known_word name (name_bytes name (and_parts (starts_lower name && nat_le (length name) MAX_NAME) (list_all is_name_byte name) h).1)

value_is_word : (kind : Kind) (x : Value kind) → IsValue kind x → IsWord (value_word kind x)
value_is_word Machine n r = decimal_is_word n (omega (arith, r))
value_is_word Number n r = decimal_is_word n (omega (arith, r))
value_is_word Word n r = decimal_is_word n r
value_is_word Hex bytes r = hex_is_word bytes
value_is_word Name name r = name_is_word name r

numbers_are_words : (ws : List ℕ) → AllByRecursion (λ w. w < 2 ^ 64) ws → AllByRecursion IsWord (map decimal ws)
numbers_are_words [] r = tt
numbers_are_words (w ∷ ws) r = (decimal_is_word w r.0, numbers_are_words ws r.1)

perhaps_is_word : (n : Option ℕ) → IsPerhapsNumber n → AllByRecursion IsWord (perhaps_number n)
perhaps_is_word None r = tt
perhaps_is_word (Some n) r = (value_is_word Number n r, tt)

pub values_are_words : (kinds : Kinds) (x : Values kinds) → AreValues kinds x → AllByRecursion IsWord (value_words kinds x)
values_are_words End tt r = tt
values_are_words (Then kind kinds) (x, xs) r = (value_is_word kind x r.0, values_are_words kinds xs r.1)
values_are_words PerhapsNumber n r = perhaps_is_word n r
values_are_words Words ws r = numbers_are_words ws r.1

letter_is_plain : (b : ℕ) → is_lower b ≡ true → is_plain b ≡ true
letter_is_plain b h = grind (arith)

pub verb_is_word : (v : Verb) → IsWord (verb_word v)
verb_is_word v = known_word (verb_word v) (verb_bytes is_plain letter_is_plain v)

pub fields_of_words : (ws : List (List ℕ)) → AllByRecursion IsWord ws → AllByRecursion IsField ws
fields_of_words [] r = tt
fields_of_words (w ∷ ws) r = (r.0.field, fields_of_words ws r.1)

plain_joined : (w : List ℕ) (ws : List (List ℕ)) → IsWord w → AllByRecursion IsWord ws → LacksSemicolon (joined (w ∷ ws))
plain_joined w [] h hs = h.plain
plain_joined w (v ∷ vs) h hs =
    All-append (λ b. eqb b 59 ≡ false) w (32 ∷ joined (v ∷ vs)) h.plain
    (All-cons (λ b. eqb b 59 ≡ false) 32 (joined (v ∷ vs)) refl (plain_joined v vs hs.0 hs.1))

-- no semicolon stands in the spelling of an event
pub plain_event : (e : Event) → IsEventInRange e → LacksSemicolon (event_text e)
plain_event e r = plain_joined (event_word (event_verb e)) (value_words (event_kinds (event_verb e)) (event_values e))
    (verb_is_word (verbs.Event (event_verb e))) (values_are_words (event_kinds (event_verb e)) (event_values e) r)
