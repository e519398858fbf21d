-- Lines of which nothing is to be explained: those to which the console has an answer, or none.
use Rattle.std.specs.Prelude.{ℕ, List, ◌≡◌}
use Rattle.esx_events.specs.declared.call.Call.{Call}
use Rattle.esx_text.specs.declared.own.OwnWord.{OwnWord}
use Rattle.esx_text.specs.Lines.{IsSilent}
use Rattle.esx_text.specs.Own.{own_line}
use Rattle.esx_text.specs.PageOut.{AsksOut}
use Rattle.esx_text.specs.Answers.{IsAsked}

-- the line of a word of the console alone, or one that asks that a page go out
pub data IsOwn (line : List ℕ) : Type 0 where
  by_word : (word : OwnWord) → line ≡ own_line word → IsOwn line
  by_page : (m page : ℕ) → AsksOut line m page → IsOwn line

-- the console passes over the line, or has an answer to it
pub data IsKnown (line : List ℕ) : Type 0 where
  silent : IsSilent line → IsKnown line
  own : IsOwn line → IsKnown line
  asked : (call : Call) → IsAsked line call → IsKnown line
