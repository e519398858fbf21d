-- The page of a machine that a word draws.
use Rattle.std.specs.Prelude.{ℕ, ◌%◌, Option, slice_get}
use Rattle.esx_types.specs.Pages.{resident_count, resident_pages}
use Rattle.esx_model.specs.declared.book.VmRow.{VmRow}

-- from those of its row that are in frames
abbrev pub drawn_page : VmRow → ℕ → Option ℕ
drawn_page v word = slice_get (resident_pages v.pages) (word % resident_count v.pages)
