-- What a page's row is, and the list of them.
use Rattle.std.specs.Prelude.{ℕ, ◌+◌, ◌==◌, Bool, true, false, List, [], ◌∷◌, count_by, slice_index_or, if◌then◌else◌}
use Rattle.esx_types.specs.declared.table.MapRow.{MapRow}
use Rattle.esx_types.specs.declared.table.MapRow.TheVariants.{Untouched, Here, Out, Lent}

-- whether the page is in a frame
abbrev pub is_here : MapRow → Bool
is_here Untouched = false
is_here (Here frame) = true
is_here (Out slot) = false
is_here (Lent epoch) = false

-- whether the page is in a swap slot
abbrev pub is_out : MapRow → Bool
is_out Untouched = false
is_out (Here frame) = false
is_out (Out slot) = true
is_out (Lent epoch) = false

-- whether the page is lent, in whichever epoch
abbrev pub is_lent : MapRow → Bool
is_lent Untouched = false
is_lent (Here frame) = false
is_lent (Out slot) = false
is_lent (Lent epoch) = true

-- whether the page was lent in this epoch
abbrev pub is_lent_in : ℕ → MapRow → Bool
is_lent_in epoch Untouched = false
is_lent_in epoch (Here frame) = false
is_lent_in epoch (Out slot) = false
is_lent_in epoch (Lent e) = e == epoch

-- the row of a page; past the end it is untouched
abbrev pub page_at : List MapRow → ℕ → MapRow
page_at rows page = slice_index_or rows page Untouched

-- how many pages are in a frame, in a slot, and lent in an epoch
abbrev pub resident_count : List MapRow → ℕ
resident_count rows = count_by is_here rows

abbrev pub out_count : List MapRow → ℕ
out_count rows = count_by is_out rows

abbrev pub lent_count : ℕ → List MapRow → ℕ
lent_count epoch rows = count_by (is_lent_in epoch) rows

-- the pages that are in a frame, in the order of their numbers, where the first row is that of page p
abbrev pub resident_from : ℕ → List MapRow → List ℕ
resident_from p [] = []
resident_from p (row ∷ rows) = if is_here row then p ∷ resident_from (p + 1) rows else resident_from (p + 1) rows

abbrev pub resident_pages : List MapRow → List ℕ
resident_pages rows = resident_from 0 rows
