-- What is amiss with the words behind the first one of a command.
use Rattle.std.specs.Prelude.{ℕ, List, ◌∷◌, ◌≡◌, ◌<◌, ◌≤◌, length, drop, slice_get, Some}
use Rattle.esx_explained.specs.declared.command.Command.{Command}
use Rattle.esx_explained.specs.declared.operand.Operand.{Operand}
use Rattle.esx_explained.specs.declared.amiss.Amiss.{Amiss}
use Rattle.esx_explained.specs.declared.amiss.Amiss.TheVariants.{Missing, TooMany, Wrong}
use Rattle.esx_explained.specs.Operands.{kind_of, IsValueWord, operands_of, least_of}

-- the word stands at a place among words
abbrev pub StandsAt : List (List ℕ) → ℕ → List ℕ → Type 0
StandsAt words at word = (later : List (List ℕ)) × (drop at words ≡ word ∷ later)

-- the operand at a place can be the word
abbrev pub MayBe : Command → ℕ → List ℕ → Type 0
MayBe c at word = (o : Operand) × (slice_get (operands_of c) at ≡ Some o) × IsValueWord (kind_of o) word

-- each of the words before a place can be the operand at its own
abbrev pub MayBeBefore : Command → List (List ℕ) → ℕ → Type 0
MayBeBefore c words at = (i : ℕ) (word : List ℕ) → i < at → StandsAt words i word → MayBe c i word

-- the operand at a place cannot be the word that stands there
abbrev pub IsWrong : Command → List (List ℕ) → ℕ → List ℕ → Type 0
IsWrong c words at word = StandsAt words at word × (o : Operand) × (slice_get (operands_of c) at ≡ Some o) × (IsValueWord (kind_of o) word → ⊥)

-- this is amiss with the words, and nothing before it is
abbrev pub IsAmiss : Command → List (List ℕ) → Amiss → Type 0
IsAmiss c words (Missing at) = (length words ≡ at) × (at < least_of c) × MayBeBefore c words at
IsAmiss c words (TooMany word) = (at : ℕ) × (length (operands_of c) ≤ at) × StandsAt words at word.now × MayBeBefore c words at
IsAmiss c words (Wrong at word) = IsWrong c words at word.now × MayBeBefore c words at

-- each word can be the operand at its place, and there are as many as there have to be
abbrev pub AreRight : Command → List (List ℕ) → Type 0
AreRight c words = (least_of c ≤ length words) × MayBeBefore c words (length words)
