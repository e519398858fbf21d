-- An index over words is smaller than the index whose words they are.
use Rattle.std.specs.Prelude.{◌≡◌, ℕ, ◌+◌, ◌/◌, ◌≤◌, max, List, length, not, ◌==◌}
use Rattle.std.proofs.Common.{arith}
use Rattle.std.proofs.lemmas.List.{length-map}
use Rattle.std.proofs.lemmas.List.FromFn.{length-range_with_len}
use Rattle.esx_index.specs.Places.{places}
use Rattle.esx_index.specs.Index.{StandsOver, IsIndex}
use Rattle.esx_index.specs.declared.free.Above.{Above}
use Rattle.esx_index.specs.declared.free.Above.TheVariants.{Top, Words}
use Rattle.esx_index.specs.declared.free.FreeIndex.TheDeep.{deep-Above}

pub length-places : (len : ℕ) (words : List ℕ) → length (places len words) ≡ len
unfolding places
length-places len words = simp (length-map, length-range_with_len)

deep_over : (above : Above) (len : ℕ) (words : List ℕ) → length words ≡ (len + 63) / 64 → StandsOver above words → max (deep-Above above) 0 ≤ len
deep_over Top len words e h = omega arith
deep_over (Words index) len words e h = let l : length index.value ≡ length words = rw h.1 (length-map words (λ w. not (w == 0))) in omega arith

pub child_smaller : (above : Above) (len : ℕ) (words : List ℕ) → IsIndex above len words → max (deep-Above above) 0 ≤ length (places len words)
child_smaller above len words h = rw length-places (deep_over above len words h.enough h.over)
