-- The lines of a text that begin with a question mark.
use Rattle.std.specs.Prelude.{ℕ, Bool, true, false, List, [], ◌∷◌, ◌++◌, ◌≡◌, ◌==◌}
use Rattle.esx_types.specs.Ends.{Tally}
use Rattle.esx_recording.specs.declared.place.Place.{Place}
use Rattle.esx_recording.specs.declared.place.Place.TheVariants.{Start, Question, Other}

-- the line whose first byte is a question mark, or is none
abbrev pub line_begun : Bool → Place
line_begun true = Question
line_begun false = Other

-- the line in which a byte stands that comes at a place
abbrev pub within : Place → ℕ → Place
within Start b = line_begun (b == 63)
within Question b = Question
within Other b = Other

-- the place behind a byte, which may be a line feed
abbrev pub place_behind : Bool → Place → Place
place_behind true place = Start
place_behind false place = place

abbrev pub behind : Place → ℕ → Place
behind place b = place_behind (b == 10) (within place b)

-- the place behind a text
abbrev pub place_after : Place → List ℕ → Place
place_after place [] = place
place_after place (b ∷ bs) = place_after (behind place b) bs

-- what is kept of bytes of one line
abbrev pub kept_in : Place → List ℕ → List ℕ
kept_in Question bytes = bytes
kept_in Start bytes = []
kept_in Other bytes = []

-- those of the bytes from a place on that stand in lines which begin with a question mark
abbrev pub question_lines_from : Place → List ℕ → List ℕ
question_lines_from place [] = []
question_lines_from place (b ∷ bs) = kept_in (within place b) (b ∷ []) ++ question_lines_from (behind place b) bs

-- the lines that begin with a question mark, with their line feeds
abbrev pub question_lines : List ℕ → List ℕ
question_lines = question_lines_from Start

-- what is kept of a front of a line that goes on at a place
abbrev pub kept_at : Place → List ℕ → List ℕ
kept_at place [] = []
kept_at place (b ∷ bs) = kept_in (within place b) (b ∷ bs)

-- no line feed stands before the last byte
abbrev pub IsOfOneLine : List ℕ → Type 0
IsOfOneLine [] = Unit {0}
IsOfOneLine (b ∷ []) = Unit {0}
IsOfOneLine (b ∷ c ∷ bs) = (b ≡ 10 → ⊥) × IsOfOneLine (c ∷ bs)

-- a sink, what was written in front of it, and how often
pub record Passing (S : Type 0) : Type 0 where
  pub sink : S
  pub written : List ℕ
  pub tally : Tally
