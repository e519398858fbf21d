-- The rows of a journal: what is kept of each node.
use Rattle.std.specs.Prelude.{ℕ, List, [], ◌∷◌, Option, Some, None, if◌then◌else◌}
use Rattle.esx_types.specs.declared.level.Level.TheVariants.{High}
use Rattle.esx_machine.specs.Machine.{Back}
use Rattle.esx_journal.specs.declared.rows.Link.{Link}

-- what is kept of a node, at its number: its parent, the child through which the cursor last went down, the youngest child,
-- the next older child of the same parent, and the record, which leads over the edge to the parent
pub record Row : Type 0 where
  pub parent : ℕ
  pub last : ℕ
  pub first : ℕ
  pub next : ℕ
  pub back : Option Back

-- the record that stands where a node has none
abbrev pub no_record : Back
no_record = record { level = High; changes = [] }

-- a link and a record as a row
abbrev pub row_from : Link → Back → Row
row_from link back = record { parent = link.parent; last = link.last; first = link.first; next = link.next; back = if link.has_record then Some back else None }

-- as many links and records as rows
unfoldable pub rows_from : List Link → List Back → List Row
rows_from [] records = []
rows_from (link ∷ links) [] = []
rows_from (link ∷ links) (back ∷ records) = row_from link back ∷ rows_from links records
