-- Texts with a sign before their lines.
use Rattle.std.specs.Prelude.{ℕ, Bool, true, false, List, [], ◌∷◌, ◌++◌, ◌==◌}

-- `fresh` tells whether a line begins. One that does not has its sign already.
abbrev pub signed_from : (sign : List ℕ) (fresh : Bool) → List ℕ → List ℕ
signed_from sign fresh [] = []
signed_from sign true (b ∷ bs) = sign ++ b ∷ signed_from sign (b == 10) bs
signed_from sign false (b ∷ bs) = b ∷ signed_from sign (b == 10) bs

-- a text with the sign before each of its lines
abbrev pub behind : (sign : List ℕ) → List ℕ → List ℕ
behind sign = signed_from sign true

-- what is to be put of it where its first sign has been put
abbrev pub begun : (sign : List ℕ) → List ℕ → List ℕ
begun sign = signed_from sign false
