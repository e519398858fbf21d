-- What a change of one row does to the counts and to the index of free rows.
use Rattle.std.proofs.Common.{◌≡◌, ℕ, ◌+◌, ◌^◌, ◌<◌, ◌≤◌, Bool, true, cond, List, length, set, map, replicate, refl, sym, ap, ◌∙◌, arith, mul-one}
use Rattle.std.proofs.lemmas.List.{length-set, length-replicate}
use Rattle.std.proofs.lemmas.List.Sums.{count_by-le-length}
use Rattle.std.proofs.lemmas.List.Folds.{sum_by-replicate}
use Rattle.std.proofs.Math.Seq.{map-set_same}
use Rattle.esx_lists.proofs.Counts.{count_by-set, count_by-set_same, count_by-replicate, map-replicate}
use Rattle.esx_types.specs.declared.table.FrameRow.{FrameRow}
use Rattle.esx_types.specs.declared.table.FrameRow.TheVariants.{Free, Overhead, Private, Shared}
use Rattle.esx_types.specs.Frames.{is_free, is_overhead, is_private, is_shared, frame_at}
use Rattle.esx_frames.specs.Counts.{counts_of, count_like, with_row, without_row}
use Rattle.esx_frames.specs.Table.{IsTable}
use Rattle.esx_frames.specs.Marks.{bytes_traded, mark_traded}
use Rattle.esx_frames.specs.declared.counts.Counts.{Counts}
use Rattle.esx_frames.specs.declared.marks.Mark.{Mark}
use Rattle.esx_frames.specs.declared.marks.Mark.TheVariants as marks

pub counts_of-set : (rows : List FrameRow) (i : ℕ) (row : FrameRow) → i < length rows → counts_of (set rows i row) ≡ with_row (without_row (counts_of rows) (frame_at rows i)) row
counts_of-set rows i row h =
    rw (count_by-set is_overhead rows i row Free h, count_by-set is_private rows i row Free h, count_by-set is_shared rows i row Free h, count_by-set is_free rows i row Free h) refl

-- a row's own kind is counted, and no more often than there are rows
pub count_like-with_row : (c : Counts) (row : FrameRow) → count_like (with_row c row) row ≡ count_like c row + 1
count_like-with_row c Free = refl
count_like-with_row c Overhead = refl
count_like-with_row c (Private bytes) = refl
count_like-with_row c (Shared count bytes) = refl

count_like-le-length : (rows : List FrameRow) (row : FrameRow) → count_like (counts_of rows) row ≤ length rows
count_like-le-length rows Free = count_by-le-length is_free rows
count_like-le-length rows Overhead = count_by-le-length is_overhead rows
count_like-le-length rows (Private bytes) = count_by-le-length is_private rows
count_like-le-length rows (Shared count bytes) = count_by-le-length is_shared rows

pub count_fits : (rows : List FrameRow) (i : ℕ) (row : FrameRow) → i < length rows → length rows < 2 ^ 32 → count_like (without_row (counts_of rows) (frame_at rows i)) row + 1 < 2 ^ 32
count_fits rows i row h fits =
    let c = without_row (counts_of rows) (frame_at rows i) in
    let e : count_like c row + 1 ≡ count_like (counts_of (set rows i row)) row =
    sym (count_like-with_row c row) ∙ ap (λ k. count_like k row) (sym (counts_of-set rows i row h)) in
    let l : count_like (counts_of (set rows i row)) row ≤ length rows = rw length-set at (count_like-le-length (set rows i row) row) in
    omega arith

-- the table after a row was written
pub table_set : (rows : List FrameRow) (i : ℕ) (row : FrameRow) (index : List Bool) (kept : Counts) (before : List Bool) (had : Counts) → IsTable rows before had → i < length rows → index ≡ map is_free (set rows i row) → kept ≡ with_row (without_row had (frame_at rows i)) row → IsTable (set rows i row) index kept
table_set rows i row index kept before had t h free counts = record {
  fits = rw length-set t.fits;
  free = free;
  counts = counts ∙ (rw t.counts (sym (counts_of-set rows i row h)));
}

-- the table after a row of the same kind was written
pub record IsAlike (a b : FrameRow) : Type 0 where
  pub free : is_free a ≡ is_free b
  pub overhead : is_overhead a ≡ is_overhead b
  pub private : is_private a ≡ is_private b
  pub shared : is_shared a ≡ is_shared b

pub table_alike : (rows : List FrameRow) (i : ℕ) (row : FrameRow) (index : List Bool) (kept : Counts) → IsTable rows index kept → IsAlike row (frame_at rows i) → IsTable (set rows i row) index kept
table_alike rows i row index kept t a = record {
  fits = rw length-set t.fits;
  free = t.free ∙ sym (map-set_same is_free rows i row Free a.free);
  counts = t.counts ∙ rw (count_by-set_same is_overhead rows i row Free a.overhead, count_by-set_same is_private rows i row Free a.private, count_by-set_same is_shared rows i row Free a.shared, count_by-set_same is_free rows i row Free a.free) refl;
}

pub recount_alike : (n m : ℕ) (bytes : List ℕ) (row : FrameRow) → row ≡ Shared n bytes → IsAlike (Shared m bytes) row
recount_alike n m bytes row e = rw e (record { free = refl; overhead = refl; private = refl; shared = refl })

-- other bytes leave a row's kind, and another mark leaves a row that is not free such a one
pub bytes_alike : (offset : ℕ) (row : FrameRow) (new : List ℕ) → IsAlike (bytes_traded offset row new).0 row
bytes_alike offset Free new = record { free = refl; overhead = refl; private = refl; shared = refl }
bytes_alike offset Overhead new = record { free = refl; overhead = refl; private = refl; shared = refl }
bytes_alike offset (Private bytes) new = record { free = refl; overhead = refl; private = refl; shared = refl }
bytes_alike offset (Shared count bytes) new = record { free = refl; overhead = refl; private = refl; shared = refl }

pub mark_free : (row : FrameRow) (mark : Mark) → is_free (mark_traded row mark).0 ≡ is_free row
mark_free Free mark = refl
mark_free Overhead mark = refl
mark_free (Private bytes) marks.Private = refl
mark_free (Private bytes) (marks.Shared count) = refl
mark_free (Shared n bytes) marks.Private = refl
mark_free (Shared n bytes) (marks.Shared count) = refl

pub table_new : (n : ℕ) → n < 2 ^ 32 → IsTable (replicate n Free) (replicate n true) (record { overhead = 0; private = 0; shared = 0; free = n })
table_new n small = record {
  fits = rw length-replicate small;
  free = sym (map-replicate is_free n Free);
  counts = rw (count_by-replicate is_overhead n Free refl, count_by-replicate is_private n Free refl, count_by-replicate is_shared n Free refl, sum_by-replicate (λ x. cond (is_free x) 1 0) n Free) (simp mul-one);
}
