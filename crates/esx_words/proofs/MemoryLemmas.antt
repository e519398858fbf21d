-- What stands before an operand that takes memory.
use Rattle.std.proofs.Common.{◌≡◌, inl, inr, ℕ, List, [], ◌∷◌, ◌++◌, decimal, codes, refl, ◌∙◌, false}
use Rattle.std.specs.Prelude.{map, Option, None, Some, MatchOption}
use Rattle.std.specs.Borrow.{Bor}
use Rattle.std.specs.List.{AllByRecursion}
use Rattle.std.proofs.Math.Dec.{eqb}
use Rattle.std.proofs.lemmas.Bool.Decides.{Decides-eqb, not_from_Decides}
use Rattle.std.proofs.lemmas.List.Elements.{All-weaker}
use Rattle.esx_events.specs.declared.event.Event.{Event}
use Rattle.esx_words.specs.Kinds.{MayBeNumbers}
use Rattle.esx_words.specs.Commands.{event_text, IsEventInRange, HasNoSemicolon, BeginsWith, ListTakesMemory}
use Rattle.esx_words.proofs.SampleLemmas.{AreWords}
use Rattle.esx_words.proofs.WordLemmas.{plain_event}
use Rattle.esx_words.proofs.ReadingLemmas.{read_so_far, ended}

-- words of a sample that were read
pub numbers_read : (ws : List ℕ) (words : List (List ℕ)) → AreWords ws → words ≡ map decimal ws → MayBeNumbers words
numbers_read [] words are e = inl e
numbers_read (w ∷ ws) words are e = inr (w, map decimal ws, are.0, e, tt)

no_semicolon : (x : Event) → IsEventInRange x → HasNoSemicolon (event_text x)
no_semicolon x r =
    All-weaker (λ b. eqb b 59 ≡ false) (λ b. b ≡ 59 → ⊥) (λ b t e. not_from_Decides _ (Decides-eqb b 59) t e) (event_text x) (plain_event x r)

pub begins_with : (text part : List ℕ) (later : Option (Bor (List ℕ))) → HasNoSemicolon part
    → MatchOption later (text ≡ part) (λ l. text ≡ part ++ (codes "; " ++ l.now)) → BeginsWith part text
begins_with text part None plain e = record { plain = plain; behind = inl e }
begins_with text part (Some l) plain e = record { plain = plain; behind = inr (l.now, e) }

-- a text whose first event was read
first_read : (text : List ℕ) (x : Event) → IsEventInRange x → BeginsWith (event_text x) text → ListTakesMemory text
first_read text x r b = record { part = event_text x; begins = b; first = inl (x, record { range = r; spelled = refl }) }

-- behind events that were read
pub memory_behind : (events : List Event) (rest text : List ℕ) → AllByRecursion IsEventInRange events → text ≡ read_so_far events rest
    → ListTakesMemory rest → ListTakesMemory text
memory_behind [] rest text r e h = rw e h
memory_behind (x ∷ xs) rest text r e h =
    first_read text x r.0 (record { plain = no_semicolon x r.0; behind = inr (read_so_far xs rest, e ∙ ended x xs rest) })

-- where a further event was read and there is no room for it
pub no_room : (events : List Event) (x : Event) (rest text : List ℕ) (later : Option (Bor (List ℕ))) → AllByRecursion IsEventInRange events
    → text ≡ read_so_far events rest → IsEventInRange x → MatchOption later (rest ≡ event_text x) (λ l. rest ≡ event_text x ++ (codes "; " ++ l.now))
    → ListTakesMemory text
no_room events x rest text later r e q m = memory_behind events rest text r e (first_read rest x q (begins_with rest (event_text x) later (no_semicolon x q) m))
