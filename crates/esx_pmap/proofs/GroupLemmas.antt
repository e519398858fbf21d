-- Counts of resident pages by groups of rows.
use Rattle.std.proofs.Common.{◌≡◌, ℕ, ◌+◌, cond, List, take, drop, sym, ap, ◌∙◌}
use Rattle.std.proofs.Math.Seq.{take-add}
use Rattle.std.proofs.lemmas.List.{take-append-drop}
use Rattle.std.proofs.lemmas.List.Sums.{sum_by-append}
use Rattle.esx_types.specs.declared.table.MapRow.{MapRow}
use Rattle.esx_types.specs.Pages.{is_here, resident_count}

-- the first n + m rows: the first n, and m of the rest
pub count_further : (n m : ℕ) (rows : List MapRow) → resident_count (take (n + m) rows) ≡ resident_count (take n rows) + resident_count (take m (drop n rows))
count_further n m rows = rw (take-add n m rows) (sum_by-append (λ x. cond (is_here x) 1 0) (take n rows) (take m (drop n rows)))

pub count_parted : (n : ℕ) (rows : List MapRow) → resident_count rows ≡ resident_count (take n rows) + resident_count (drop n rows)
count_parted n rows = ap resident_count (sym (take-append-drop n rows)) ∙ sum_by-append (λ x. cond (is_here x) 1 0) (take n rows) (drop n rows)
