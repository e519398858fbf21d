-- A line is a call's spelling exactly where its fields are the call's words; and a line spells one call at most.
use Rattle.std.proofs.Common.{◌≡◌, ℕ, List, ◌∷◌, refl, ap, sym, ◌∙◌}
use Rattle.std.specs.List.{AllByRecursion}
use Rattle.std.specs.Str.{IsAscii}
use Rattle.std.proofs.Math.Path.{subst}
use Rattle.std.proofs.lemmas.Str.Ascii.{IsAscii-from_all}
use Rattle.esx_events.specs.declared.call.Call.{Call}
use Rattle.esx_events.specs.declared.call.Call.TheVariants as call
use Rattle.esx_reading.specs.Fields.{fields, joined}
use Rattle.esx_reading.proofs.FieldLemmas.{IsField, joined_of_fields, fields_of_joined, others_of, ascii_joined}
use Rattle.esx_words.specs.declared.verbs.Verb.{Verb}
use Rattle.esx_words.specs.Verbs.{verb_word}
use Rattle.esx_words.specs.Commands.{Form, verb_form, verb, operands, Operands, operand_words, AreOperands, words_of, spelling, IsInRange, Spells}
use Rattle.esx_words.specs.Commands.Form.{Plain, Tried}
use Rattle.esx_words.proofs.Tables.{call_at}
use Rattle.esx_words.proofs.VerbLemmas.{one_verb}
use Rattle.esx_words.proofs.WordLemmas.{verb_is_word, values_are_words, fields_of_words}
use Rattle.esx_words.proofs.EventLemmas.{first_of, same_values, event_again}
use Rattle.esx_words.proofs.ListedLemmas.{list_fields, same_lists}

operands_are_fields : (form : Form) (x : Operands form) → AreOperands form x → AllByRecursion IsField (operand_words form x)
operands_are_fields (Plain kinds) x r = fields_of_words _ (values_are_words kinds x r)
operands_are_fields Tried events r = list_fields events r.1

pub fields_of_spelling : (call : Call) → IsInRange call → fields (spelling call) ≡ words_of call
fields_of_spelling call r = fields_of_joined (verb_word (verb call)) (operand_words (verb_form (verb call)) (operands call))
    (verb_is_word (verb call)).field (operands_are_fields (verb_form (verb call)) (operands call) r)

pub fields_of_command : (text : List ℕ) (call : Call) → Spells text call → fields text ≡ words_of call
fields_of_command text call is = ap fields is.spelled ∙ fields_of_spelling call is.range

pub spells : (text : List ℕ) (call : Call) → IsInRange call → fields text ≡ words_of call → Spells text call
spells text call range e = record { range = range; spelled = sym (joined_of_fields text) ∙ ap joined e }

pub ascii_command : (text : List ℕ) (call : Call) → Spells text call → IsAscii text
ascii_command text call is = IsAscii-from_all text (rw is.spelled (ascii_joined (verb_word (verb call)) (operand_words (verb_form (verb call)) (operands call))
    (verb_is_word (verb call)).field (operands_are_fields (verb_form (verb call)) (operands call) is.range)))

-- the words are those of no operands of this verb
abbrev pub LacksOperands : Verb → List (List ℕ) → Type 0
LacksOperands v rest = (x : Operands (verb_form v)) → AreOperands (verb_form v) x → rest ≡ operand_words (verb_form v) x → ⊥

pub none_of : (v : Verb) (word : List ℕ) (all rest : List (List ℕ)) → word ≡ verb_word v → all ≡ word ∷ rest → LacksOperands v rest
    → (call : Call) → IsInRange call → all ≡ words_of call → ⊥
none_of v word all rest w a h call r e =
    let whole = sym a ∙ e in
    let same = one_verb v (verb call) (sym w ∙ first_of _ _ _ _ whole) in
    subst (λ (u : Verb). LacksOperands u rest) same h (operands call) r (others_of _ _ _ _ whole)

same_operands : (form : Form) (x y : Operands form) → AreOperands form x → AreOperands form y → operand_words form x ≡ operand_words form y → x ≡ y
same_operands (Plain kinds) x y p q e = same_values kinds x y p q e
same_operands Tried x y p q e = same_lists x y p.0.0 q.0.0 p.1 q.1 (ap joined e)

call_again : (c : Call) → call_at (verb c) (operands c) ≡ c
unfolding call_at
call_again (call.Do event) = ap call.Do (event_again event)
call_again c = refl

same_parts : (v w : Verb) → v ≡ w → (x : Operands (verb_form v)) (y : Operands (verb_form w)) → AreOperands (verb_form v) x → AreOperands (verb_form w) y
    → operand_words (verb_form v) x ≡ operand_words (verb_form w) y → call_at v x ≡ call_at w y
same_parts v w e x y p q t =
    subst (λ (u : Verb). (y : Operands (verb_form u)) → AreOperands (verb_form u) y → operand_words (verb_form v) x ≡ operand_words (verb_form u) y → call_at v x ≡ call_at u y)
    e (λ z r s. ap (call_at v) (same_operands (verb_form v) x z p r s)) y q t

pub same_call : (a b : Call) → IsInRange a → IsInRange b → words_of a ≡ words_of b → a ≡ b
same_call a b p q e =
    sym (call_again a) ∙ same_parts (verb a) (verb b) (one_verb (verb a) (verb b) (first_of _ _ _ _ e)) (operands a) (operands b) p q (others_of _ _ _ _ e) ∙ call_again b

pub one_call : (text : List ℕ) (a b : Call) → Spells text a → Spells text b → a ≡ b
one_call text a b p q = same_call a b p.range q.range (sym (fields_of_command text a p) ∙ fields_of_command text b q)
