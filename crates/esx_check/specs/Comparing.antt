-- What is written to a text that is compared with it.
use Rattle.std.specs.Prelude.{ℕ, List, [], ◌∷◌, ◌++◌, take, Option, Some, None}
use Rattle.esx_types.specs.Ends.{Tally}

-- what was written so far, and how often
pub record Written : Type 0 where
  pub bytes : List ℕ
  pub tally : Tally

-- so many bytes of a text, and then the byte that differs, if one does
abbrev pub front_and_other : List ℕ → ℕ → Option ℕ → List ℕ
front_and_other text count None = take count text
front_and_other text count (Some byte) = take count text ++ byte ∷ []
