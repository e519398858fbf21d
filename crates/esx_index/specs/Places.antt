-- Marks in words of sixty-four places.
use Rattle.std.specs.Prelude.{ℕ, ◌/◌, ◌%◌, ◌==◌, List, Bool, map, not, slice_index}
use Rattle.std.specs.List.{range_with_len}
use Rattle.std.specs.Int.{bit_at}

-- whether a place is marked in the words
unfoldable pub is_marked : List ℕ → ℕ → Bool
is_marked words i = bit_at (slice_index words (i / 64)) (i % 64) == 1

-- whether each of the places below len is marked
unfoldable pub places : ℕ → List ℕ → List Bool
places len words = map (is_marked words) (range_with_len 0 len)

-- whether each word has a mark
abbrev pub has_mark : List ℕ → List Bool
has_mark words = map (λ w. not (w == 0)) words
