-- What is amiss with events that are tried.
use Rattle.std.specs.Prelude.{ℕ, zero, suc, Bool, IsTrue, List, ◌∷◌, ◌≡◌, ◌<◌, ◌≤◌, ◌==◌, length}
use Rattle.std.specs.List.{slice_split, list_all}
use Rattle.esx_events.specs.declared.events.TheConstants.{MAX_EVENTS}
use Rattle.esx_reading.specs.Fields.{fields}
use Rattle.esx_explained.specs.declared.command.Command.{Command}
use Rattle.esx_explained.specs.declared.tried.AmissEvent.{AmissEvent}
use Rattle.esx_explained.specs.declared.tried.AmissEvent.TheVariants.{Missing, NoSpace, Unknown, Operands}
use Rattle.esx_explained.specs.Words.{command_word, is_event}
use Rattle.esx_explained.specs.Amiss.{StandsAt, IsAmiss, AreRight}

-- the parts of a text between its semicolons
abbrev pub parts : List ℕ → List (List ℕ)
parts = slice_split (λ b. b == 59)

-- it has nothing but spaces
abbrev pub is_blank : List ℕ → Bool
is_blank = list_all (λ b. b == 32)

-- the text of the event at a place, from 0 on, in its part: a space stands before each but the first
abbrev pub IsTextOf : ℕ → List ℕ → List ℕ → Type 0
IsTextOf zero part text = part ≡ text
IsTextOf (suc at) part text = part ≡ 32 ∷ text

-- the text begins with the word of an event, and nothing behind it is amiss
abbrev pub IsEventText : List ℕ → Type 0
IsEventText text = (c : Command) × (words : List (List ℕ)) × IsTrue (is_event c) × (fields text ≡ command_word c ∷ words) × AreRight c words

abbrev pub IsEventPart : ℕ → List ℕ → Type 0
IsEventPart at part = (text : List ℕ) × IsTextOf at part text × IsEventText text

-- the text begins with a word that no event has
abbrev pub IsNoEvent : List ℕ → List ℕ → Type 0
IsNoEvent text word = ((words : List (List ℕ)) × (fields text ≡ word ∷ words)) × ((c : Command) → IsTrue (is_event c) → word ≡ command_word c → ⊥)

-- what is said is so of the text of an event
abbrev pub IsAmissEvent : List ℕ → AmissEvent → Type 0
IsAmissEvent text Missing = ⊥
IsAmissEvent text NoSpace = ⊥
IsAmissEvent text (Unknown word) = IsNoEvent text word.now
IsAmissEvent text (Operands c a) = IsTrue (is_event c) × (words : List (List ℕ)) × (fields text ≡ command_word c ∷ words) × IsAmiss c words a

-- what is said is so of the part of a text at a place
abbrev pub IsAmissPart : ℕ → List ℕ → AmissEvent → Type 0
IsAmissPart at part Missing = IsTrue (is_blank part)
IsAmissPart at part NoSpace = (IsTrue (is_blank part) → ⊥) × ((text : List ℕ) → IsTextOf at part text → ⊥)
IsAmissPart at part (Unknown word) = (IsTrue (is_blank part) → ⊥) × (text : List ℕ) × IsTextOf at part text × IsAmissEvent text (Unknown word)
IsAmissPart at part (Operands c a) = (text : List ℕ) × IsTextOf at part text × IsAmissEvent text (Operands c a)

-- each of the parts of a text before a place is that of an event
abbrev pub AreEventsBefore : List ℕ → ℕ → Type 0
AreEventsBefore text at = (i : ℕ) (part : List ℕ) → i < at → StandsAt (parts text) i part → IsEventPart i part

-- the part at a place is amiss, and none before it is
abbrev pub IsFirstAmiss : List ℕ → ℕ → AmissEvent → Type 0
IsFirstAmiss text at e = ((part : List ℕ) × StandsAt (parts text) at part × IsAmissPart at part e) × AreEventsBefore text at

-- as many as can be tried are events, and more stand behind them
abbrev pub HasTooMany : List ℕ → Type 0
HasTooMany text = (MAX_EVENTS < length (parts text)) × AreEventsBefore text MAX_EVENTS

-- each part is that of an event, and there are no more than can be tried
abbrev pub AreEvents : List ℕ → Type 0
AreEvents text = (length (parts text) ≤ MAX_EVENTS) × AreEventsBefore text (length (parts text))
