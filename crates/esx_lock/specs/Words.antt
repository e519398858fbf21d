-- The word of a lock.
use Rattle.std.specs.Prelude.{ℕ, ◌+◌, ◌*◌, Bool, true, false}
use Rattle.esx_types.specs.declared.level.Level.{Level}
use Rattle.esx_types.specs.declared.level.Level.TheVariants.{High, Soft, Hard, Low}

abbrev pub level_number : Level → ℕ
level_number High = 0
level_number Soft = 1
level_number Hard = 2
level_number Low = 3

-- the word of a lock that is free
abbrev pub bits : ℕ × Level → ℕ
bits g = 8 * g.0 + 2 * level_number g.1

-- the word that tells a gauge, of a lock that is free or held
abbrev pub word_for : ℕ × Level → Bool → ℕ
word_for g false = bits g
word_for g true = bits g + 1
