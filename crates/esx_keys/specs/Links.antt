-- Linked lists in an arena. No public clause cites this module.
use Rattle.std.specs.Prelude.{◌≡◌, ℕ, ◌+◌, ◌<◌}

-- Each of the n places stands in one of m lists, its group, with a rank: how many places come after
-- it there. A list has a length and a first place, and each place but the last names the next.
pub record Links (n m : ℕ) (group rank next first len : ℕ → ℕ) : Type 0 where
  pub grouped : (i : ℕ) → i < n → group i < m
  pub ranked : (i : ℕ) → i < n → rank i < len (group i)
  pub within : (i : ℕ) → i < n → 0 < rank i → next i < n
  pub together : (i : ℕ) → i < n → 0 < rank i → group (next i) ≡ group i
  pub falling : (i : ℕ) → i < n → 0 < rank i → rank (next i) + 1 ≡ rank i
  pub first_within : (h : ℕ) → h < m → 0 < len h → first h < n
  pub first_group : (h : ℕ) → h < m → 0 < len h → group (first h) ≡ h
  pub first_rank : (h : ℕ) → h < m → 0 < len h → rank (first h) + 1 ≡ len h
  pub apart : (i j : ℕ) → i < n → j < n → group i ≡ group j → rank i ≡ rank j → i ≡ j
