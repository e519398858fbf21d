-- What stands before the end of a line.
use Rattle.std.specs.Prelude.{◌≢◌, ◌≡◌, ℕ, List, [], ◌∷◌, ◌++◌, codes}

-- the last byte of a text, or `d` of an empty one
abbrev pub last_of : ℕ → List ℕ → ℕ
last_of d [] = d
last_of d (b ∷ bs) = last_of b bs

-- a line with no blank at its end
abbrev pub IsTrimmed : List ℕ → Type 0
IsTrimmed text = (front : List ℕ) × (text ≡ front ++ codes "\n") × (last_of 32 front ≢ 32)
