-- Lines that are explained are those that the console answers by their number, and what is read is its lines.
use Rattle.std.specs.Prelude.{ℕ, List, ◌++◌, ◌≡◌, ◌^◌, ◌-◌, min, length}
use Rattle.esx_model.specs.Console.{Session}
use Rattle.esx_text.specs.Answers.{IsAnswered, unknown_text}
use Rattle.esx_text.specs.Lines.{EndsIn, IsHeld, lines}
use Rattle.esx_explained.specs.Known.{IsKnown}
use Rattle.esx_explained.specs.Input.{ReadSoFar, at_start, after, at_end}

-- a line that is not known is answered by its number, and the session stays
abbrev pub IsAnsweredByNumber : List ℕ → Type 0
IsAnsweredByNumber line = (IsKnown line → ⊥) → (n caller : ℕ) (session : Session) → IsAnswered n caller session line (unknown_text n) session

-- what answers a known line as one number answers it as any other
abbrev pub IsAnsweredWithoutNumber : List ℕ → Type 0
IsAnsweredWithoutNumber line = IsKnown line → (n other caller : ℕ) (session after : Session) (text : List ℕ) → IsAnswered n caller session line text after
    → IsAnswered other caller session line text after

-- what is read in two parts is read as in one
abbrev pub IsReadInParts : ReadSoFar → List ℕ → List ℕ → Type 0
IsReadInParts r one other = after r (one ++ other) ≡ after (after r one) other

-- so many lines, as far as numbers go
abbrev pub counted : ℕ → ℕ
counted n = min n (2 ^ 64 - 1)

-- the pieces of a text that are ended are counted, and what is held is of the rest behind them
abbrev pub IsReadInPieces : List ℕ → Type 0
IsReadInPieces text = (ended : List (List ℕ)) (rest : List ℕ) → EndsIn text ended rest
    → ((after at_start text).count ≡ counted (length ended)) × IsHeld (after at_start text).front (after at_start text).long rest

-- at the end of a text each of its lines is counted
abbrev pub IsCountedInLines : List ℕ → Type 0
IsCountedInLines text = (ended : List (List ℕ)) (rest : List ℕ) → EndsIn text ended rest → (at_end (after at_start text)).count ≡ counted (length (lines ended rest))
