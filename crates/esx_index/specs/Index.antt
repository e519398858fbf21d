-- What holds of an index.
use Rattle.std.specs.Prelude.{◌≡◌, ℕ, ◌+◌, ◌/◌, ◌^◌, ◌<◌, ◌≤◌, List, false, length}
use Rattle.esx_index.specs.Places.{is_marked, has_mark}
use Rattle.esx_index.specs.declared.free.Above.{Above}
use Rattle.esx_index.specs.declared.free.Above.TheVariants.{Top, Words}

-- one word has nothing over it; several have an index of those that have a mark
abbrev pub StandsOver : Above → List ℕ → Type 0
StandsOver Top words = length words ≤ 1
StandsOver (Words index) words = (1 < length words) × (index.value ≡ has_mark words)

-- there are as many words as the places take, no place past the last is marked, and what stands over them is right
pub record IsIndex (above : Above) (len : ℕ) (words : List ℕ) : Type 0 where
  pub fits : len < 2 ^ 64
  pub enough : length words ≡ (len + 63) / 64
  pub within : (i : ℕ) → len ≤ i → is_marked words i ≡ false
  pub over : StandsOver above words
