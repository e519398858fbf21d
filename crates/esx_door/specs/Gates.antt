-- How often a gate was passed, and what it answered.
use Rattle.std.specs.Prelude.{◌≡◌, ℕ, zero, suc, Bool, true, false}

module _ {G : Type 0} (passes : G → ℕ → Bool → G → Type 0) where
  -- it was passed at each of the turns 1 to n, once and in this order, and let through each time
  unfoldable pub LetThrough : ℕ → G → G → Type 0
  LetThrough zero g h = h ≡ g
  LetThrough (suc n) g h = (m : G) × LetThrough n g m × passes m (suc n) true h

  -- and at the turn after them it gave up
  abbrev pub GaveUp : ℕ → G → G → Type 0
  GaveUp n g h = (m : G) × LetThrough n g m × passes m (suc n) false h
