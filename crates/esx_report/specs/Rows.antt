-- The lines of tables.
use Rattle.std.specs.Prelude.{ℕ, List, [], ◌∷◌, ◌++◌, codes, flat_map}
use Rattle.esx_report.specs.declared.field.Field.{Field}
use Rattle.esx_report.specs.declared.column.Cell.{Cell}
use Rattle.esx_report.specs.Fields.{field_text, cell_text}

-- a line of columns with a separator between them
abbrev pub columns_text : {A : Type 0} → List ℕ → (A → List ℕ) → List A → List ℕ
columns_text separator text [] = codes "\n"
columns_text separator text (x ∷ xs) = text x ++ (flat_map (λ y. separator ++ text y) xs ++ codes "\n")

-- a row of a table of comma-separated values
abbrev pub csv_row : List Field → List ℕ
csv_row fields = columns_text (codes ",") (field_text []) fields

-- a row of a table in columns
abbrev pub table_row : List Cell → List ℕ
table_row cells = columns_text (codes " ") cell_text cells
