-- The table of changes of place.
use Rattle.std.specs.Prelude.{ℕ, List, [], ◌∷◌, ◌++◌, codes, flat_map}
use Rattle.esx_story.specs.declared.change.Spot.{Spot}
use Rattle.esx_story.specs.declared.change.Spot.TheVariants as spots
use Rattle.esx_report.specs.declared.field.Field.{Field}
use Rattle.esx_report.specs.declared.field.Field.TheVariants as fields
use Rattle.esx_report.specs.declared.changes.ChangeLine.{ChangeLine}
use Rattle.esx_report.specs.Rows.{csv_row}

abbrev pub change_head : List ℕ
change_head = codes "event,node,call,by,vm,page,how,from,from_at,to,to_at\n"

-- the frame, the slot or the epoch of a place
abbrev pub spot_number : Spot → Field
spot_number spots.Untouched = fields.Empty
spot_number (spots.Here frame shared) = fields.Number frame
spot_number (spots.Out slot) = fields.Number slot
spot_number (spots.Lent since) = fields.Number since

abbrev pub change_fields : ChangeLine → List Field
change_fields line =
    fields.Number line.at ∷ fields.Number line.node ∷ fields.Number line.call ∷ fields.Number line.by
    ∷ fields.Number line.passage.vm ∷ fields.Number line.passage.page ∷ fields.How line.passage.how
    ∷ fields.Spot line.passage.from ∷ spot_number line.passage.from ∷ fields.Spot line.passage.to ∷ spot_number line.passage.to ∷ []

abbrev pub change_row : ChangeLine → List ℕ
change_row line = csv_row (change_fields line)

-- the whole table of changes
abbrev pub changes_csv : List ChangeLine → List ℕ
changes_csv lines = change_head ++ flat_map change_row lines
