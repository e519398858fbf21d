-- A line spells one event at most.
use Rattle.std.proofs.Common.{◌≡◌, ◌<◌, ◌^◌, ℕ, List, [], ◌∷◌, arith, refl, ap, sym, ◌∙◌, decimal}
use Rattle.std.specs.Prelude.{map, Option, None, Some}
use Rattle.std.specs.List.{AllByRecursion}
use Rattle.std.proofs.Math.Path.{subst}
use Rattle.std.proofs.lemmas.Fmt.{decimal_injective}
use Rattle.hex.specs.Hex.{encode_lower, decode_of}
use Rattle.hex.proofs.HexLemmas.{decode_of-encode_lower}
use Rattle.esx_events.specs.declared.event.Event.{Event}
use Rattle.esx_events.specs.declared.event.Event.TheVariants as event
use Rattle.esx_reading.specs.Written.{IsWritten}
use Rattle.esx_reading.specs.Fields.{fields, joined}
use Rattle.esx_reading.proofs.FieldLemmas.{fields_of_joined, joined_of_fields, others_of}
use Rattle.esx_words.specs.declared.verbs.Verb.TheVariants as verbs
use Rattle.esx_words.specs.declared.verbs.EventVerb.{EventVerb}
use Rattle.esx_words.specs.Kinds.{Kind, Kinds, Value, Values, value_word, value_words, IsValue, AreValues, perhaps_number, IsPerhapsNumber}
use Rattle.esx_words.specs.Kinds.Kind.{Machine, Number, Word, Hex, Name}
use Rattle.esx_words.specs.Kinds.Kinds.{End, Then, PerhapsNumber, Words}
use Rattle.esx_words.specs.Verbs.{event_word}
use Rattle.esx_words.specs.Commands.{event_kinds, event_verb, event_values, event_words, event_text, IsEventInRange, SpellsEvent}
use Rattle.esx_words.proofs.Tables.{event_at}
use Rattle.esx_words.proofs.VerbLemmas.{one_verb}
use Rattle.esx_words.proofs.WordLemmas.{verb_is_word, values_are_words, fields_of_words}

pub first_of : {A : Type 0} (x y : A) (xs ys : List A) → x ∷ xs ≡ y ∷ ys → x ≡ y
first_of x y xs ys e = cc

pub both_of : {A : Type 0} (x y : A) (xs ys : List A) → x ≡ y → xs ≡ ys → x ∷ xs ≡ y ∷ ys
both_of x y xs ys e f = cc

pub one_event_verb : (v w : EventVerb) → event_word v ≡ event_word w → v ≡ w
one_event_verb v w e = let same = one_verb (verbs.Event v) (verbs.Event w) e in cc

same_bytes : (a b : List ℕ) → IsWritten a → IsWritten b → encode_lower a ≡ encode_lower b → a ≡ b
same_bytes a b p q e =
    let o = sym (decode_of-encode_lower a p.are_bytes) ∙ ap decode_of e ∙ decode_of-encode_lower b q.are_bytes in cc

same_value : (kind : Kind) (x y : Value kind) → IsValue kind x → IsValue kind y → value_word kind x ≡ value_word kind y → x ≡ y
same_value Machine x y p q e = decimal_injective x y (omega (arith, p)) (omega (arith, q)) e
same_value Number x y p q e = decimal_injective x y (omega (arith, p)) (omega (arith, q)) e
same_value Word x y p q e = decimal_injective x y p q e
same_value Hex x y p q e = same_bytes x y p q e
same_value Name x y p q e = e

same_numbers : (xs ys : List ℕ) → AllByRecursion (λ w. w < 2 ^ 64) xs → AllByRecursion (λ w. w < 2 ^ 64) ys → map decimal xs ≡ map decimal ys → xs ≡ ys
same_numbers [] [] p q e = refl
same_numbers [] (y ∷ ys) p q e = absurd (cc)
same_numbers (x ∷ xs) [] p q e = absurd (cc)
same_numbers (x ∷ xs) (y ∷ ys) p q e =
    both_of x y xs ys (decimal_injective x y p.0 q.0 (first_of _ _ _ _ e)) (same_numbers xs ys p.1 q.1 (others_of _ _ _ _ e))

same_perhaps : (x y : Option ℕ) → IsPerhapsNumber x → IsPerhapsNumber y → perhaps_number x ≡ perhaps_number y → x ≡ y
same_perhaps None None p q e = refl
same_perhaps None (Some y) p q e = absurd (cc)
same_perhaps (Some x) None p q e = absurd (cc)
same_perhaps (Some x) (Some y) p q e = ap Some (same_value Number x y p q (first_of _ _ _ _ e))

pub same_values : (kinds : Kinds) (x y : Values kinds) → AreValues kinds x → AreValues kinds y → value_words kinds x ≡ value_words kinds y → x ≡ y
same_values End x y p q e = refl
same_values (Then kind kinds) (x, xs) (y, ys) p q e =
    let one = same_value kind x y p.0 q.0 (first_of _ _ _ _ e) in
    let more = same_values kinds xs ys p.1 q.1 (others_of _ _ _ _ e) in
    λ i. (one i, more i)
same_values PerhapsNumber x y p q e = same_perhaps x y p q e
same_values Words x y p q e = same_numbers x y p.1 q.1 e

pub event_again : (e : Event) → event_at (event_verb e) (event_values e) ≡ e
unfolding event_at
event_again (event.Admit vm spec) = refl
event_again e = refl

same_parts : (v w : EventVerb) → v ≡ w → (x : Values (event_kinds v)) (y : Values (event_kinds w)) → AreValues (event_kinds v) x → AreValues (event_kinds w) y
    → value_words (event_kinds v) x ≡ value_words (event_kinds w) y → event_at v x ≡ event_at w y
same_parts v w e x y p q t =
    subst (λ (u : EventVerb). (y : Values (event_kinds u)) → AreValues (event_kinds u) y → value_words (event_kinds v) x ≡ value_words (event_kinds u) y → event_at v x ≡ event_at u y)
    e (λ z r s. ap (event_at v) (same_values (event_kinds v) x z p r s)) y q t

same_event : (a b : Event) → IsEventInRange a → IsEventInRange b → event_words a ≡ event_words b → a ≡ b
same_event a b p q e =
    sym (event_again a) ∙ same_parts (event_verb a) (event_verb b) (one_event_verb (event_verb a) (event_verb b) (first_of _ _ _ _ e)) (event_values a) (event_values b) p q (others_of _ _ _ _ e) ∙ event_again b

fields_of_event : (e : Event) → IsEventInRange e → fields (event_text e) ≡ event_words e
fields_of_event e r = fields_of_joined (event_word (event_verb e)) (value_words (event_kinds (event_verb e)) (event_values e))
    (verb_is_word (verbs.Event (event_verb e))).field (fields_of_words _ (values_are_words (event_kinds (event_verb e)) (event_values e) r))

pub same_event_text : (a b : Event) → IsEventInRange a → IsEventInRange b → event_text a ≡ event_text b → a ≡ b
same_event_text a b p q e = same_event a b p q (sym (fields_of_event a p) ∙ ap fields e ∙ fields_of_event b q)

pub fields_of_event_line : (text : List ℕ) (e : Event) → SpellsEvent text e → fields text ≡ event_words e
fields_of_event_line text e is = ap fields is.spelled ∙ fields_of_event e is.range

pub spells_event : (text : List ℕ) (e : Event) → IsEventInRange e → fields text ≡ event_words e → SpellsEvent text e
spells_event text e range is = record { range = range; spelled = sym (joined_of_fields text) ∙ ap joined is }

-- the words are those of no values of this verb
abbrev pub LacksValues : EventVerb → List (List ℕ) → Type 0
LacksValues v rest = (x : Values (event_kinds v)) → AreValues (event_kinds v) x → rest ≡ value_words (event_kinds v) x → ⊥

pub no_event_of : (v : EventVerb) (word : List ℕ) (all rest : List (List ℕ)) → word ≡ event_word v → all ≡ word ∷ rest → LacksValues v rest
    → (e : Event) → IsEventInRange e → all ≡ event_words e → ⊥
no_event_of v word all rest w a h event r e =
    let whole = sym a ∙ e in
    let same = one_event_verb v (event_verb event) (sym w ∙ first_of _ _ _ _ whole) in
    subst (λ (u : EventVerb). LacksValues u rest) same h (event_values event) r (others_of _ _ _ _ whole)
