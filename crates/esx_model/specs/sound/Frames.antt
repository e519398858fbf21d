-- What the frames and slots of a site on a path keep, as a matter of its pages and its overhead frames.
use Rattle.std.specs.Prelude.{◌≡◌, ℕ, ◌≤◌, ◌<◌, true, false, ◌==◌, List, [], ◌∷◌, Option, Some, None, replicate, count_by}
use Rattle.std.specs.List.{AllByRecursion}
use Rattle.esx_types.specs.declared.table.FrameRow.{FrameRow}
use Rattle.esx_types.specs.declared.table.FrameRow.TheVariants as frames
use Rattle.esx_types.specs.declared.table.SlotRow.{SlotRow}
use Rattle.esx_types.specs.declared.table.SlotRow.TheVariants as slots
use Rattle.esx_formulas.specs.Key.{content_key}
use Rattle.esx_model.specs.declared.scene.Place.{Place}
use Rattle.esx_model.specs.declared.scene.Place.TheVariants.{Here, Out}
use Rattle.esx_model.specs.Show.{in_frame, in_slot, is_listed, row_of, slot_of}

-- the pages that the row of frame f stands for
abbrev pub pages_for : ℕ → FrameRow → List Place
pages_for f frames.Free = []
pages_for f frames.Overhead = []
pages_for f (frames.Private bytes) = Here bytes f false ∷ []
pages_for f (frames.Shared count bytes) = replicate count (Here bytes f true)

-- the pages that the row of slot i stands for
abbrev pub pages_out_for : ℕ → SlotRow → List Place
pages_out_for i slots.Free = []
pages_out_for i (slots.Held bytes) = Out bytes i ∷ []

-- the key that a frame is shared under
abbrev pub key_of_row : FrameRow → Option ℕ
key_of_row frames.Free = None
key_of_row frames.Overhead = None
key_of_row (frames.Private bytes) = None
key_of_row (frames.Shared count bytes) = Some (content_key bytes)

pub record AreFrames (count : ℕ) (places : List Place) (overhead : List ℕ) : Type 0 where
  -- a frame has one private page, or as many pages as its count, shared and with equal bytes
  pub alike : (f : ℕ) → in_frame f places ≡ pages_for f (row_of (in_frame f places))
  -- a slot has one page
  pub single : (i : ℕ) → in_slot i places ≡ pages_out_for i (slot_of (in_slot i places))
  pub below : AllByRecursion (λ f. f < count) overhead
  -- no frame is overhead twice, nor overhead and a page's
  pub once : (f : ℕ) → count_by (λ g. g == f) overhead ≤ 1
  pub apart : (f : ℕ) → is_listed f overhead ≡ true → in_frame f places ≡ []
  -- one frame is shared under a key
  pub keys : (f g key : ℕ) → key_of_row (row_of (in_frame f places)) ≡ Some key → key_of_row (row_of (in_frame g places)) ≡ Some key → f ≡ g
