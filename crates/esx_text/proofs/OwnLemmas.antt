-- The words of the console alone are no calls, and each is answered in one way.
use Rattle.std.proofs.Common.{◌≡◌, ◌<◌, ℕ, List, inl, inr, refl, sym, ap, ◌∙◌, arith, length, codes}
use Rattle.esx_events.specs.declared.call.Call.{Call}
use Rattle.esx_model.specs.Console.{Session}
use Rattle.esx_words.specs.Verbs.{verb_word}
use Rattle.esx_words.specs.Commands.{verb, Spells}
use Rattle.esx_words.proofs.VerbLemmas.{verb_at, named, all_verbs, is_found}
use Rattle.esx_words.proofs.EventLemmas.{first_of}
use Rattle.esx_words.proofs.CommandLemmas.{fields_of_command}
use Rattle.esx_order.specs.Telling.{order_text}
use Rattle.esx_order.proofs.Those.{order_is_one}
use Rattle.esx_text.specs.declared.answer.TheConstants.{LONGEST}
use Rattle.esx_text.specs.declared.own.OwnWord.{OwnWord}
use Rattle.esx_text.specs.declared.own.OwnWord.TheVariants as own
use Rattle.esx_text.specs.Lines.{IsSilent}
use Rattle.esx_text.specs.Own.{own_line, site_of, IsOwnText}
use Rattle.esx_text.specs.Own.IsOwnText.{told, ordered}
use Rattle.esx_text.specs.Answers.{MayWantMemory}

-- the verb that is found for a word of the console alone has another
found_word : (word : OwnWord) → verb_word (verb_at (own_line word)) ≡ codes "whatif"
unfolding verb_at named all_verbs
found_word own.Session = refl
found_word own.Order = refl

not_found : (word : OwnWord) → codes "whatif" ≡ own_line word → ⊥
not_found own.Session e = cc
not_found own.Order e = cc

is_verb : (word : OwnWord) (call : Call) → Spells (own_line word) call → verb_word (verb call) ≡ own_line word
is_verb own.Session call is = first_of _ _ _ _ (sym (fields_of_command (own_line own.Session) call is))
is_verb own.Order call is = first_of _ _ _ _ (sym (fields_of_command (own_line own.Order) call is))

pub own_is_no_call : (word : OwnWord) (call : Call) → Spells (own_line word) call → ⊥
own_is_no_call word call is = not_found word (sym (found_word word) ∙ is_found (verb call) (own_line word) (is_verb word call is))

loud : (word : OwnWord) → IsSilent (own_line word) → ⊥
loud own.Session s = omega (arith, s)
loud own.Order s = omega (arith, s)

short : (word : OwnWord) → LONGEST < length (own_line word) → ⊥
short own.Session l = omega (arith, l)
short own.Order l = omega (arith, l)

-- The same of a line.

pub own_is_loud : (line : List ℕ) (word : OwnWord) → line ≡ own_line word → IsSilent line → ⊥
own_is_loud line word e s = loud word (rw e at s)

pub own_spells_none : (line : List ℕ) (word : OwnWord) → line ≡ own_line word → (call : Call) → Spells line call → ⊥
own_spells_none line word e call is = own_is_no_call word call (rw e at is)

pub long_is_no_own : (line : List ℕ) → LONGEST < length line → (word : OwnWord) → line ≡ own_line word → ⊥
long_is_no_own line l word e = short word (rw e at l)

-- A line is that of one word, which has one text.

pub one_word : (a b : OwnWord) → own_line a ≡ own_line b → a ≡ b
one_word own.Session own.Session e = refl
one_word own.Session own.Order e = absurd (cc)
one_word own.Order own.Session e = absurd (cc)
one_word own.Order own.Order e = refl

own_text_is_one : (session : Session) (word : OwnWord) (text other : List ℕ) → IsOwnText session word text → IsOwnText session word other → text ≡ other
own_text_is_one session own.Session text other told told = refl
own_text_is_one session own.Order text other (ordered a p) (ordered b q) = ap order_text (order_is_one (site_of session) a b p q)

pub one_own_text : (session : Session) (line : List ℕ) (a b : OwnWord) (text other : List ℕ) → line ≡ own_line a → line ≡ own_line b
    → IsOwnText session a text → IsOwnText session b other → text ≡ other
one_own_text session line a b text other e f p q = own_text_is_one session b text other (rw (one_word a b (sym e ∙ f)) at p) q

-- the order may want memory
pub order_wants : (line : List ℕ) → line ≡ own_line own.Order → MayWantMemory line
order_wants line e = record { short = (rw e (omega arith)); wants = inr (inr (inl e)) }
