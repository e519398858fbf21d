-- How many pages of each machine are in shared frames, at its number, and how that changes.
use Rattle.std.specs.Prelude.{ℕ, ◌+◌, ◌-◌, ◌≤◌, List, slice_index_or, slice_set, Option, Some, None}

abbrev pub shared_at : List ℕ → ℕ → ℕ
shared_at shared n = slice_index_or shared n 0

abbrev pub raised : List ℕ → Option ℕ → List ℕ
raised shared None = shared
raised shared (Some n) = slice_set shared n (shared_at shared n + 1)

abbrev pub lowered : List ℕ → Option ℕ → List ℕ
lowered shared None = shared
lowered shared (Some n) = slice_set shared n (shared_at shared n - 1)

-- a page of one machine parted, one of another joined, and one of a third is its host
abbrev pub shifted : List ℕ → Option ℕ → Option ℕ → Option ℕ → List ℕ
shifted shared parted joined host = lowered (raised (raised shared joined) host) parted

abbrev pub AreAtMost : ℕ → List ℕ → Type 0
AreAtMost most shared = (n : ℕ) → shared_at shared n ≤ most
