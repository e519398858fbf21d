-- Words of marks: the first places marked, and the lowest mark of a word.
use Rattle.std.specs.Prelude.{◌≡◌, ℕ, ◌+◌, ◌-◌, ◌*◌, ◌/◌, ◌^◌, ◌==◌, min, List, length, slice_index, if◌then◌else◌, Option, Some, None}
use Rattle.std.specs.Int.{trailing_zeros, w64}

-- the first len places are marked, and no other
pub record MarksFirst (len : ℕ) (words : List ℕ) : Type 0 where
  pub enough : length words ≡ (len + 63) / 64
  pub each : (j : ℕ) → slice_index words j ≡ 2 ^ min 64 (len - j * 64) - 1

-- the place of the lowest mark of a word
abbrev pub lowest_mark_of : List ℕ → ℕ → Option ℕ
lowest_mark_of words at =
    if slice_index words at == 0 then None else Some (at * 64 + trailing_zeros w64 (slice_index words at))
