-- Logs, and what is known of one.
use Rattle.std.specs.Prelude.{◌≡◌, ℕ, ◌<◌, true, false, List, [], ◌∷◌, ◌++◌}
use Rattle.esx_types.specs.declared.ids.Ids.{Ids}
use Rattle.esx_events.specs.declared.call.Line.{Line}
use Rattle.esx_types.specs.Ids.{has}

-- the caller of each line is as P says
abbrev pub Callers : (ℕ → Type 0) → List Line → Type 0
Callers P [] = Unit {0}
Callers P (x ∷ xs) = P x.caller × Callers P xs

-- each line is of a caller below n, and of none of these
abbrev pub OthersOf : ℕ → Ids → List Line → Type 0
OthersOf n ids = Callers (λ k. (k < n) × (has ids k ≡ false))

-- each line is one of these callers'
abbrev pub OnlyOf : Ids → List Line → Type 0
OnlyOf ids = Callers (λ k. has ids k ≡ true)

-- the log begins with what was seen, and goes on with lines of others alone
abbrev pub Follows : ℕ → Ids → List Line → List Line → Type 0
Follows n ids seen log = (later : List Line) × (seen ++ later ≡ log) × OthersOf n ids later
