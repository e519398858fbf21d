-- Which keys are kept of the pages at places.
use Rattle.std.specs.Prelude.{◌≡◌, ◌≢◌, ℕ, List, slice_index}
use Rattle.esx_formulas.specs.Key.{content_key}

-- a word that is not 0 is the key of the bytes at its place
pub record KnowsKeys (bytes : ℕ → List ℕ) (words : List ℕ) : Type 0 where
  pub right : (place : ℕ) → slice_index words place ≢ 0 → slice_index words place ≡ content_key (bytes place)
