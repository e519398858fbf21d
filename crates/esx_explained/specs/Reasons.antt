-- What an explanation says of a line.
use Rattle.std.specs.Prelude.{ℕ, List, [], ◌∷◌, ◌≡◌, ◌+◌, ◌<◌, length}
use Rattle.std.specs.Str.{IsUtf8}
use Rattle.esx_reading.specs.Fields.{fields}
use Rattle.esx_explained.specs.declared.command.Command.{Command}
use Rattle.esx_explained.specs.declared.command.Command.TheVariants.{WhatIf}
use Rattle.esx_text.specs.declared.answer.TheConstants.{LONGEST}
use Rattle.esx_explained.specs.declared.reason.Explanation.{Explanation}
use Rattle.esx_explained.specs.declared.reason.Explanation.TheVariants.{TooLong, NotText, Unknown, Operands, NoEvents, Tried, TooManyEvents, Other}
use Rattle.esx_explained.specs.Words.{command_word}
use Rattle.esx_explained.specs.Near.{IsNearest}
use Rattle.esx_explained.specs.Amiss.{IsAmiss, AreRight}
use Rattle.esx_explained.specs.Tried.{IsFirstAmiss, HasTooMany, AreEvents}

-- what is said is so of the words behind the first one of a command
abbrev pub IsSaidOf : Command → List (List ℕ) → Explanation → Type 0
IsSaidOf c words TooLong = ⊥
IsSaidOf c words NotText = ⊥
IsSaidOf c words (Unknown word nearest) = ⊥
IsSaidOf c words (Operands d a) = (d ≡ c) × (c ≡ WhatIf → ⊥) × IsAmiss c words a
IsSaidOf c words NoEvents = (c ≡ WhatIf) × (words ≡ [])
IsSaidOf c words (Tried number e) = (c ≡ WhatIf) × (text : List ℕ) × (words ≡ fields text) × (at : ℕ) × (number ≡ at + 1) × IsFirstAmiss text at e
IsSaidOf c words TooManyEvents = (c ≡ WhatIf) × (text : List ℕ) × (words ≡ fields text) × HasTooMany text
IsSaidOf c words (Other d) = (d ≡ c) × ((c ≡ WhatIf → ⊥) → AreRight c words) × (c ≡ WhatIf → (text : List ℕ) × (words ≡ fields text) × AreEvents text)

-- the line begins with the word of a command, and what is said is so of the words behind it
abbrev pub IsSaidIn : List ℕ → Explanation → Type 0
IsSaidIn line e = (c : Command) × (words : List (List ℕ)) × (fields line ≡ command_word c ∷ words) × IsSaidOf c words e

-- the line begins with a word that no command has
abbrev pub IsUnknown : List ℕ → List ℕ → Type 0
IsUnknown line word = ((words : List (List ℕ)) × (fields line ≡ word ∷ words)) × ((c : Command) → word ≡ command_word c → ⊥)

-- what is said is so of the line
abbrev pub Explains : List ℕ → Explanation → Type 0
Explains line TooLong = LONGEST < length line
Explains line NotText = IsUtf8 line → ⊥
Explains line (Unknown word nearest) = IsUnknown line word.now × IsNearest word.now nearest
Explains line (Operands c a) = IsSaidIn line (Operands c a)
Explains line NoEvents = IsSaidIn line NoEvents
Explains line (Tried number e) = IsSaidIn line (Tried number e)
Explains line TooManyEvents = IsSaidIn line TooManyEvents
Explains line (Other c) = IsSaidIn line (Other c)
