-- The kept keys stay right: where a frame's row changes and its key is forgotten, and where a row keeps its bytes.
use Rattle.std.proofs.Common.{◌≡◌, ℕ, ◌<◌, List, length, set, refl, ap, ◌∙◌, sym, inl, inr, get_or-set_same}
use Rattle.std.proofs.lemmas.Bool.{cases_eq}
use Rattle.std.proofs.lemmas.List.{get_or-set_other}
use Rattle.esx_types.specs.declared.table.FrameRow.{FrameRow}
use Rattle.esx_types.specs.declared.table.FrameRow.TheVariants.{Free, Overhead, Private, Shared}
use Rattle.esx_types.specs.Frames.{bytes_of, frame_at}
use Rattle.esx_known.specs.Known.{KnowsKeys}
use Rattle.esx_known.proofs.Callers.{knows_forgotten, knows_alike}
use Rattle.esx_frames.specs.Marks.{mark_traded}
use Rattle.esx_frames.specs.Known.{bytes_in}
use Rattle.esx_frames.specs.declared.marks.Mark.{Mark}
use Rattle.esx_frames.specs.declared.marks.Mark.TheVariants as marks

pub row_forgotten : (rows : List FrameRow) (words : List ℕ) (i : ℕ) (row : FrameRow) → KnowsKeys (bytes_in rows) words → KnowsKeys (bytes_in (set rows i row)) (set words i 0)
row_forgotten rows words i row k =
    knows_forgotten (bytes_in rows) (bytes_in (set rows i row)) words i k (λ f other. ap bytes_of (get_or-set_other rows i f row Free other))

-- the same bytes have the same key
pub row_alike : (rows : List FrameRow) (words : List ℕ) (i : ℕ) (row : FrameRow) → KnowsKeys (bytes_in rows) words → i < length rows → bytes_of row ≡ bytes_of (frame_at rows i) → KnowsKeys (bytes_in (set rows i row)) words
row_alike rows words i row k h same =
    knows_alike (bytes_in rows) (bytes_in (set rows i row)) words k
    (λ f. elim (cases_eq f i) [
      | inl e ↦ ap (bytes_in (set rows i row)) e ∙ ap bytes_of (get_or-set_same rows i row Free h) ∙ same ∙ ap (bytes_in rows) (sym e)
      | inr other ↦ ap bytes_of (get_or-set_other rows i f row Free other)
    ])

pub shared_bytes : (n : ℕ) (bytes : List ℕ) (row : FrameRow) → row ≡ Shared n bytes → bytes ≡ bytes_of row
shared_bytes n bytes row e = rw e refl

pub mark_bytes : (row : FrameRow) (mark : Mark) → bytes_of (mark_traded row mark).0 ≡ bytes_of row
mark_bytes Free mark = refl
mark_bytes Overhead mark = refl
mark_bytes (Private bytes) marks.Private = refl
mark_bytes (Private bytes) (marks.Shared count) = refl
mark_bytes (Shared n bytes) marks.Private = refl
mark_bytes (Shared n bytes) (marks.Shared count) = refl
