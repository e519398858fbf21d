-- Bytes in place or on the heap.
use Rattle.std.specs.Prelude.{ℕ, List, ◌<◌, ◌≤◌, length, take}
use Rattle.esx_types.specs.declared.small.Kept.{Kept}
use Rattle.esx_types.specs.declared.small.Kept.TheVariants.{Few, Many}
use Rattle.esx_types.specs.declared.small.TheConstants.{FEW}

-- the bytes, wherever they are
abbrev pub kept_bytes : Kept → List ℕ
kept_bytes (Few len bytes) = take len bytes
kept_bytes (Many bytes) = bytes.value

-- a few stand in place, and more on the heap
abbrev pub IsKept : Kept → Type 0
IsKept (Few len bytes) = len ≤ FEW
IsKept (Many bytes) = FEW < length bytes.value
