-- Four blocks of a message side by side: a word of each block in each lane of a vector.
use Rattle.std.specs.Prelude.{◌≡◌, ℕ, ◌-◌, ◌*◌, ◌<◌, List, [], take, drop, slice_index, slice_index_or}
use Rattle.sha2.specs.Sha256.{add32, small_sigma0, small_sigma1, round_constants}

-- block j of a message
abbrev pub block : List ℕ → ℕ → List ℕ
block p j = take 64 (drop (j * 64) p)

-- lane j of the vector at t
abbrev pub lane_at : List (List ℕ) → ℕ → ℕ → ℕ
lane_at w t j = slice_index (slice_index_or w t []) j

-- word t of the schedule in lane j, from the words before it
abbrev pub next_in_lane : List (List ℕ) → ℕ → ℕ → ℕ
next_in_lane w t j = add32 (add32 (add32 (small_sigma1 (lane_at w (t - 2) j)) (lane_at w (t - 7) j))
    (small_sigma0 (lane_at w (t - 15) j))) (lane_at w (t - 16) j)

-- the lanes j of the first n vectors are the first n words of a schedule
abbrev pub AreWords : List (List ℕ) → ℕ → List ℕ → ℕ → Type 0
AreWords w j ws n = (t : ℕ) → t < n → lane_at w t j ≡ slice_index ws t

-- the lanes j of the first n vectors are the first n words of a schedule, each with its round's constant added
abbrev pub AreSums : List (List ℕ) → ℕ → List ℕ → ℕ → Type 0
AreSums sums j ws n = (t : ℕ) → t < n → lane_at sums t j ≡ add32 (slice_index ws t) (slice_index round_constants t)

-- lane j has the first n words of a schedule, and their sums with the rounds' constants
pub record IsLane (w added : List (List ℕ)) (j : ℕ) (ws : List ℕ) (n : ℕ) : Type 0 where
  pub words : AreWords w j ws n
  pub sums : AreSums added j ws n
