-- The least and the most of some numbers, each with the first place at which it stands.
use Rattle.std.specs.Prelude.{ℕ, ◌+◌, ◌≡◌, ◌<◌, ◌≤◌, nat_lt, List, [], ◌∷◌, slice_get, Some, if◌then◌else◌}
use Rattle.esx_sums.specs.declared.site.Extreme.{Extreme}

-- with one more number, at place i
abbrev pub lower : Extreme → ℕ → ℕ → Extreme
lower best i v = if nat_lt v best.number then record { number = v; event = i } else best

abbrev pub higher : Extreme → ℕ → ℕ → Extreme
higher best i v = if nat_lt best.number v then record { number = v; event = i } else best

-- of the best so far and these, of which the first is at place i
abbrev pub least_from : Extreme → ℕ → List ℕ → Extreme
least_from best i [] = best
least_from best i (v ∷ vs) = least_from (lower best i v) (i + 1) vs

abbrev pub most_from : Extreme → ℕ → List ℕ → Extreme
most_from best i [] = best
most_from best i (v ∷ vs) = most_from (higher best i v) (i + 1) vs

-- of one number at place 0 and these behind it
abbrev pub least : ℕ → List ℕ → Extreme
least v vs = least_from (record { number = v; event = 0 }) 1 vs

abbrev pub most : ℕ → List ℕ → Extreme
most v vs = most_from (record { number = v; event = 0 }) 1 vs

-- it stands at its place, none is less, and those before it are greater
pub record IsFirstLeast (vs : List ℕ) (e : Extreme) : Type 0 where
  pub there : slice_get vs e.event ≡ Some e.number
  pub least : (k v : ℕ) → slice_get vs k ≡ Some v → e.number ≤ v
  pub first : (k v : ℕ) → slice_get vs k ≡ Some v → k < e.event → e.number < v

-- it stands at its place, none is greater, and those before it are less
pub record IsFirstMost (vs : List ℕ) (e : Extreme) : Type 0 where
  pub there : slice_get vs e.event ≡ Some e.number
  pub most : (k v : ℕ) → slice_get vs k ≡ Some v → v ≤ e.number
  pub first : (k v : ℕ) → slice_get vs k ≡ Some v → k < e.event → v < e.number
