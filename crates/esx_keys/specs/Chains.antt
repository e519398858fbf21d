-- Chains of numbers, each in ascending order. No public clause cites this module.
use Rattle.std.specs.Prelude.{◌≡◌, ◌≢◌, ℕ, ◌+◌, ◌<◌, ◌≤◌, List, length, Option, Some, None, slice_index}

-- where a walk goes on from a place of a chain: before the first, or after a number
abbrev pub after : Option ℕ → ℕ
after None = 0
after (Some k) = k + 1

-- the number that a place of a chain leads to
abbrev pub link_at : List ℕ → List ℕ → ℕ → Option ℕ → ℕ
link_at heads next b None = slice_index heads b
link_at heads next b (Some k) = slice_index next k

-- the place belongs to the chain
abbrev pub IsIn : (ℕ → Option ℕ) → ℕ → Option ℕ → Type 0
IsIn group b None = Unit {0}
IsIn group b (Some k) = group k ≡ Some b

-- places of chains with links of their own
abbrev pub AreApart : ℕ → Option ℕ → ℕ → Option ℕ → Type 0
AreApart b None c None = b ≢ c
AreApart b None c (Some k) = Unit {0}
AreApart b (Some j) c None = Unit {0}
AreApart b (Some j) c (Some k) = j ≢ k

-- to is the first number from i on that is in chain b; where there is none, it is no number below n
pub record Leads (n : ℕ) (group : ℕ → Option ℕ) (b i to : ℕ) : Type 0 where
  pub onward : i ≤ to
  pub skips : (k : ℕ) → i ≤ k → k < to → group k ≢ Some b
  pub lands : to < n → group to ≡ Some b

-- each of the numbers below n is in one of the chains or in none, and each place leads to the next
abbrev pub IsChained : ℕ → (ℕ → Option ℕ) → List ℕ → List ℕ → Type 0
IsChained n group heads next =
    (b : ℕ) (o : Option ℕ) → b < length heads → IsIn group b o → Leads n group b (after o) (link_at heads next b o)

-- the place of chain b after which number f stands, or would stand
pub record IsBefore (group : ℕ → Option ℕ) (b f : ℕ) (o : Option ℕ) : Type 0 where
  pub within : IsIn group b o
  pub below : after o ≤ f
  pub last : (k : ℕ) → after o ≤ k → k < f → group k ≢ Some b

-- number f is in chain o, or in none, and every other number is where it was
pub record IsMoved (group : ℕ → Option ℕ) (f : ℕ) (o : Option ℕ) (moved : ℕ → Option ℕ) : Type 0 where
  pub there : moved f ≡ o
  pub others : (k : ℕ) → k ≢ f → moved k ≡ group k
