-- What it means that losses are all that there are, and that what is told of them is in range.
use Rattle.std.specs.Prelude.{◌≡◌, ◌↔◌, ℕ, ◌<◌, List, slice_get, Some}
use Rattle.std.specs.List.{All}
use Rattle.esx_story.specs.declared.story.Loss.{Loss}
use Rattle.esx_story.specs.Losses.{IsLoss}
use Rattle.esx_story.specs.Moments.{Moment}
use Rattle.esx_story.specs.Order.{HasGoodRows}

-- a loss of the i-th event, of that page, stands among these
abbrev pub IsToldLoss : List Loss → ℕ → ℕ → ℕ → Type 0
IsToldLoss losses i n page = (k : ℕ) × (l : Loss) × (slice_get losses k ≡ Some l) × (l.at ≡ i) × (l.change.vm ≡ n) × (l.change.page ≡ page)

-- they are all losses that there are, and no others
abbrev pub AreAllLosses : List Moment → List Loss → Type 0
AreAllLosses ms losses = (i n page : ℕ) → IsLoss ms i n page ↔ IsToldLoss losses i n page

-- each of a later event than those before it, so none stands twice
abbrev pub AreRising : List Loss → Type 0
AreRising losses = (j k : ℕ) (x y : Loss) → j < k → slice_get losses j ≡ Some x → slice_get losses k ≡ Some y → x.at < y.at

-- the rows that are told of each are in their ranges
abbrev pub AreGood : List Loss → Type 0
AreGood losses = All (λ l. HasGoodRows l.seen.order) losses
