-- What is written for an input is determined.
use Rattle.std.specs.Prelude.{ℕ, List, ◌≡◌, Ok}
use Rattle.esx_events.specs.declared.event.Answer.{Answer}
use Rattle.esx_events.specs.declared.call.Call.{Call}
use Rattle.esx_events.specs.declared.call.Said.TheVariants.{Done}
use Rattle.esx_model.specs.Console.{Session, next_reply}
use Rattle.esx_pageout.specs.Draws.{TellsOut}
use Rattle.esx_words.specs.Commands.{Spells}
use Rattle.esx_text.specs.Lines.{EndsIn, IsSilent}
use Rattle.esx_text.specs.declared.own.OwnWord.{OwnWord}
use Rattle.esx_text.specs.Own.{own_line}
use Rattle.esx_text.specs.PageOut.{AsksOut, pageout_call, word_after}
use Rattle.esx_text.specs.Answers.{Serves}

-- a text has its ended pieces and its rest in one way
abbrev pub HasOneSplit : List ℕ → Type 0
HasOneSplit text = (ended others : List (List ℕ)) (rest last : List ℕ) → EndsIn text ended rest → EndsIn text others last → (ended ≡ others) × (rest ≡ last)

-- a text that is answered by nothing is the line of no call
abbrev pub SpellsNoCall : List ℕ → Type 0
SpellsNoCall text = IsSilent text → (call : Call) → Spells text call → ⊥

-- a word of the console alone is no call
abbrev pub IsNoCall : OwnWord → Type 0
IsNoCall word = (call : Call) → Spells (own_line word) call → ⊥

-- a line that asks that a page go out is no call's
abbrev pub AsksNoCall : List ℕ → Type 0
AsksNoCall line = (n page : ℕ) → AsksOut line n page → (call : Call) → Spells line call → ⊥

-- where a page goes out, the answer tells that page
abbrev pub TellsPage : Session → Type 0
TellsPage session = (n page word : ℕ) (answer : Answer) → word_after session n page ≡ Ok word → (next_reply session (pageout_call n word)).said ≡ Done answer
    → TellsOut page answer

-- an input is served in one way from each session
abbrev pub HasOneAnswer : List ℕ → Type 0
HasOneAnswer input = (caller count other : ℕ) (before after last : Session) (text others : List ℕ)
    → Serves caller count before input text after → Serves caller other before input others last
    → (count ≡ other) × (text ≡ others) × (after ≡ last)
