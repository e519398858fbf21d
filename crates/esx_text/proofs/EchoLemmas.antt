-- Echoes, and what is written behind them.
use Rattle.std.proofs.Common.{◌≡◌, ◌<◌, ℕ, List, [], ◌∷◌, ◌++◌, refl, sym, ◌∙◌, ap, append_assoc, arith, length, Option, Result, Ok, Err}
use Rattle.std.specs.Io.KnownBytes.{Appends}
use Rattle.esx_writing.specs.Writing.{Writes, WritesFront}
use Rattle.esx_writing.proofs.WritingLemmas.{appends_more}
use Rattle.esx_text.specs.declared.answer.TheConstants.{LONGEST}
use Rattle.esx_text.specs.declared.echo.Manner.{Manner}
use Rattle.esx_text.specs.declared.echo.Manner.TheVariants.{Plain, Echoed}
use Rattle.esx_text.specs.Lines.{IsSilent}
use Rattle.esx_text.specs.Echo.{echo_in, echo_text}

silent_text : (line : List ℕ) → IsSilent line → echo_text line ≡ []
silent_text [] s = refl
silent_text (b ∷ bs) s = rw s refl

long_text : (line : List ℕ) → LONGEST < length line → echo_text line ≡ []
long_text [] l = refl
long_text (b ∷ bs) l = grind (arith, l)

-- nothing is echoed of a silent line, nor of a long one

pub silent_echo : (manner : Manner) (line : List ℕ) → IsSilent line → echo_in manner line ≡ []
silent_echo Plain line s = refl
silent_echo Echoed line s = silent_text line s

pub long_echo : (manner : Manner) (line : List ℕ) → LONGEST < length line → echo_in manner line ≡ []
long_echo Plain line l = refl
long_echo Echoed line l = long_text line l

-- a text was written, and behind it another, or a front of it

pub front_behind : (a b c : Option (List ℕ)) (x y : List ℕ) → Appends a b x → WritesFront b c y → WritesFront a c (x ++ y)
front_behind a b c x y p w = (x ++ w.0, w.1, ap (λ v. x ++ v) w.2 ∙ sym (append_assoc x w.0 w.1), appends_more a b c x w.0 p w.3)

pub writes_behind : {T E : Type 0} (a b c : Option (List ℕ)) (x y : List ℕ) (r : Result T E) → Appends a b x → Writes b c y r → Writes a c (x ++ y) r
writes_behind a b c x y (Ok done) p w = appends_more a b c x y p w
writes_behind a b c x y (Err e) p w = front_behind a b c x y p w
