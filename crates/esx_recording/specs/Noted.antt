-- A text that grows at its end.
use Rattle.std.specs.Prelude.{ℕ, List, [], ◌∷◌, ◌++◌, Option, None, Some}

abbrev pub noted_bytes : Option (List ℕ × ℕ) → List ℕ
noted_bytes None = []
noted_bytes (Some both) = both.0 ++ both.1 ∷ []
