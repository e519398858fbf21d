-- What is written before the answer to a line.
use Rattle.std.specs.Prelude.{ℕ, List, [], ◌∷◌, ◌++◌, ◌==◌, ◌||◌, nat_lt, if◌then◌else◌, codes, length}
use Rattle.esx_text.specs.declared.answer.TheConstants.{LONGEST}
use Rattle.esx_text.specs.declared.echo.Manner.{Manner}
use Rattle.esx_text.specs.declared.echo.Manner.TheVariants.{Plain, Echoed}
use Rattle.esx_text.specs.declared.echo.Echo.{Echo}

-- the line behind `> `, with a line feed; nothing where it is silent, or too long
abbrev pub echo_text : List ℕ → List ℕ
echo_text [] = []
echo_text (b ∷ bs) = if b == 35 || nat_lt LONGEST (length (b ∷ bs)) then [] else codes "> " ++ ((b ∷ bs) ++ 10 ∷ [])

-- what is written before the answer in a manner of serving
abbrev pub echo_in : Manner → List ℕ → List ℕ
echo_in Plain line = []
echo_in Echoed line = echo_text line

-- the same of a line with its manner
abbrev pub echo_of : Echo → List ℕ
echo_of e = echo_in e.manner e.line.now
