-- Lines that are known, and what is amiss with others.
use Rattle.std.proofs.Common.{◌≡◌, ◌<◌, ◌≤◌, ◌+◌, ℕ, List, [], ◌∷◌, drop, length, codes, refl, sym, ap, ◌∙◌, subst, arith}
use Rattle.std.proofs.Common.{inl, inr, zero, suc, ◌==◌, ◌≢◌, Option, Some, None, MatchOption, Bor, IsTrue}
use Rattle.std.specs.List.{All}
use Rattle.std.proofs.lemmas.List.{length-drop, drop-drop}
use Rattle.std.specs.Str.{IsUtf8}
use Rattle.std.proofs.lemmas.Str.{IsUtf8-from_ascii}
use Rattle.std.proofs.lemmas.Str.Ascii.{IsAscii-from_all}
use Rattle.std.proofs.lemmas.Bool.{cases_lt}
use Rattle.esx_explained.specs.declared.command.Command.{Command}
use Rattle.std.proofs.lemmas.List.Splits.{length-slice_split}
use Rattle.esx_explained.specs.declared.reason.Explanation.{Explanation}
use Rattle.esx_explained.specs.declared.reason.Explanation.TheVariants.{TooLong, NotText, Unknown, Operands, NoEvents, Tried, TooManyEvents, Other}
use Rattle.esx_explained.specs.Words.{command_word}
use Rattle.esx_explained.specs.Amiss.{StandsAt}
use Rattle.esx_explained.specs.declared.tried.AmissEvent.{AmissEvent}
use Rattle.esx_explained.specs.declared.tried.AmissEvent.TheVariants as event
use Rattle.esx_explained.specs.Tried.{parts, is_blank, IsTextOf, IsEventText, IsEventPart, IsAmissEvent, IsAmissPart}
use Rattle.esx_explained.specs.Reasons.{IsSaidOf, Explains}
use Rattle.esx_events.specs.declared.call.Call.{Call}
use Rattle.esx_reading.specs.Fields.{fields}
use Rattle.esx_reading.proofs.FieldLemmas.{no_space_in_known}
use Rattle.esx_words.proofs.CommandLemmas.{ascii_command}
use Rattle.esx_text.specs.declared.own.OwnWord.TheVariants.{Session, Order}
use Rattle.esx_text.specs.Lines.{IsSilent}
use Rattle.esx_text.specs.PageOut.{AsksOut}
use Rattle.esx_text.specs.Answers.{IsAsked}
use Rattle.esx_text.proofs.PageOutLemmas.{pageout_is_utf8}
use Rattle.esx_explained.specs.Known.{IsOwn, IsKnown}
use Rattle.esx_explained.specs.Known.IsOwn.{by_word, by_page}
use Rattle.esx_explained.specs.Known.IsKnown.{silent, own, asked}

own_is_utf8 : (line : List ℕ) → IsOwn line → IsUtf8 line
own_is_utf8 line (by_word Session e) = IsUtf8-from_ascii line (IsAscii-from_all line (subst (λ (l : List ℕ). All (λ b. b < 128) l) (sym e) (no_space_in_known (codes "session") refl).ascii))
own_is_utf8 line (by_word Order e) = IsUtf8-from_ascii line (IsAscii-from_all line (subst (λ (l : List ℕ). All (λ b. b < 128) l) (sym e) (no_space_in_known (codes "order") refl).ascii))
own_is_utf8 line (by_page m n asks) = pageout_is_utf8 line m n asks

-- a line of bytes that are no text is known only where it is silent
pub known_is_utf8 : (line : List ℕ) → (IsSilent line → ⊥) → IsKnown line → IsUtf8 line
known_is_utf8 line loud (silent s) = absurd (loud s)
known_is_utf8 line loud (own o) = own_is_utf8 line o
known_is_utf8 line loud (asked call is) = IsUtf8-from_ascii line (ascii_command line call is.command)

-- a text is known where it is silent, a word of the console alone, or a call
pub unknown : (line : List ℕ) → (IsSilent line → ⊥) → (IsOwn line → ⊥) → ((call : Call) → IsAsked line call → ⊥) → IsKnown line → ⊥
unknown line loud others none (silent s) = loud s
unknown line loud others none (own o) = others o
unknown line loud others none (asked call is) = none call is

-- the words of the console alone
pub no_own : (line : List ℕ) → (line ≡ codes "session" → ⊥) → (line ≡ codes "order" → ⊥) → ((m n : ℕ) → AsksOut line m n → ⊥) → IsOwn line → ⊥
no_own line a b none (by_word Session e) = a e
no_own line a b none (by_word Order e) = b e
no_own line a b none (by_page m n asks) = none m n asks

-- one more of some words is read
pub one_read : (all later : List (List ℕ)) (w : List ℕ) (at : ℕ) → drop at all ≡ w ∷ later → (at + 1 ≤ length all) × (drop (at + 1) all ≡ later)
one_read all later w at left =
    let many = ap length left in
    (omega (arith, length-drop at all), sym (drop-drop 1 at all) ∙ ap (λ (l : List (List ℕ)). drop 1 l) left)

-- all of them are read, or the last one is
pub all_read : (all : List (List ℕ)) (at : ℕ) → at ≤ length all → drop at all ≡ [] → length all ≡ at
all_read all at le left = (let many = ap length left in omega (arith, length-drop at all))

pub last_read : (all : List (List ℕ)) (w : List ℕ) (at : ℕ) → drop at all ≡ w ∷ [] → length all ≡ at + 1
last_read all w at left = (let many = ap length left in omega (arith, length-drop at all))

-- what holds of the words before a place, and of the one at it
pub each_more : (P : ℕ → List ℕ → Type 0) (all later : List (List ℕ)) (w : List ℕ) (at : ℕ) → drop at all ≡ w ∷ later → P at w
    → ((i : ℕ) (word : List ℕ) → i < at → StandsAt all i word → P i word) → (i : ℕ) (word : List ℕ) → i < at + 1 → StandsAt all i word → P i word
each_more P all later w at left this before i word lt stands = elim (cases_lt i at) [
  | inl less ↦ before i word less stands
  | inr past ↦ (
      let same : at ≡ i = omega arith in
      let others : List (List ℕ) = stands.0 in
      let one : w ∷ later ≡ word ∷ others = sym left ∙ (ap (λ (n : ℕ). drop n all) same ∙ stands.1) in
      let word_is : w ≡ word = cc in
      subst (λ (n : ℕ). P n word) same (subst (λ (x : List ℕ). P at x) word_is this)
      )
]

-- behind a space the text of an event that is not the first
pub text_behind : (at : ℕ) (part : List ℕ) (r : Option (Bor (List ℕ))) → (at ≡ 0 → ⊥) → MatchOption r ((rest : List ℕ) → part ≢ 32 ∷ rest) (λ x. part ≡ 32 ∷ x.now)
    → MatchOption r ((text : List ℕ) → IsTextOf at part text → ⊥) (λ text. IsTextOf at part text.now)
text_behind zero part r not h = absurd (not refl)
text_behind (suc at) part r not h = h

-- what is amiss with the text of an event is amiss with its part
pub amiss_part_of : (at : ℕ) (part text : List ℕ) (found : Option AmissEvent) → (IsTrue (is_blank part) → ⊥) → IsTextOf at part text
    → MatchOption found (IsEventText text) (λ e. IsAmissEvent text e) → MatchOption found (IsEventPart at part) (λ e. IsAmissPart at part e)
amiss_part_of at part text None words is h = (text, is, h)
amiss_part_of at part text (Some event.Missing) words is h = absurd h
amiss_part_of at part text (Some event.NoSpace) words is h = absurd h
amiss_part_of at part text (Some (event.Unknown word)) words is h = (words, text, is, h)
amiss_part_of at part text (Some (event.Operands c a)) words is h = (text, is, h)

-- behind some parts of a text there is one more
pub more_parts : (text rest : List ℕ) (at : ℕ) → drop at (parts text) ≡ parts rest → at < length (parts text)
more_parts text rest at left = (let many = ap length left in omega (arith, length-drop at (parts text), length-slice_split (λ b. b == 59) rest))

-- what is said of the words behind the first one of a command is said of the line
pub said : (line : List ℕ) (e : Explanation) (c : Command) (words : List (List ℕ)) → fields line ≡ command_word c ∷ words → IsSaidOf c words e → Explains line e
said line TooLong c words is h = absurd h
said line NotText c words is h = absurd h
said line (Unknown word nearest) c words is h = absurd h
said line (Operands d a) c words is h = (c, words, is, h)
said line NoEvents c words is h = (c, words, is, h)
said line (Tried number e) c words is h = (c, words, is, h)
said line TooManyEvents c words is h = (c, words, is, h)
said line (Other d) c words is h = (c, words, is, h)
