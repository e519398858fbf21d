-- What stands in a field of a table, as text.
use Rattle.std.specs.Prelude.{ℕ, List, ◌++◌, ◌*◌, ◌/◌, ◌%◌, ◌==◌, codes, decimal, if◌then◌else◌}
use Rattle.esx_types.specs.declared.level.Level.{Level}
use Rattle.esx_types.specs.declared.level.Level.TheVariants.{High, Soft, Hard, Low}
use Rattle.esx_story.specs.declared.change.How.{How}
use Rattle.esx_story.specs.declared.change.How.TheVariants as hows
use Rattle.esx_story.specs.declared.change.Spot.{Spot}
use Rattle.esx_story.specs.declared.change.Spot.TheVariants as spots
use Rattle.esx_writing.specs.Writing.{right_in, left_in, thousandths_text}
use Rattle.esx_report.specs.declared.field.Field.{Field}
use Rattle.esx_report.specs.declared.field.Field.TheVariants as fields
use Rattle.esx_report.specs.declared.column.Cell.{Cell}
use Rattle.esx_report.specs.declared.column.Cell.TheVariants.{Right, Left}
use Rattle.esx_report.specs.declared.part.Part.{Part}
use Rattle.esx_report.specs.declared.part.Part.TheVariants as parts

abbrev pub level_text : Level → List ℕ
level_text High = codes "high"
level_text Soft = codes "soft"
level_text Hard = codes "hard"
level_text Low = codes "low"

-- the word for the way in which a page came or left
abbrev pub how_text : How → List ℕ
how_text hows.Balloon = codes "balloon"
how_text hows.Swap = codes "swap"
how_text hows.Replaced = codes "replace"
how_text hows.Dropped = codes "drop"
how_text hows.First = codes "first"
how_text hows.Pop = codes "pop"
how_text hows.SwapIn = codes "swapin"
how_text hows.Share = codes "share"
how_text hows.Host = codes "host"
how_text hows.Cow = codes "cow"
how_text hows.Own = codes "own"
how_text hows.LentAway = codes "lend"
how_text hows.TakenBack = codes "takeback"
how_text hows.DroppedOut = codes "dropout"

-- the word for the kind of place where a page is
abbrev pub spot_text : Spot → List ℕ
spot_text spots.Untouched = codes "untouched"
spot_text (spots.Here frame shared) = codes "here"
spot_text (spots.Out slot) = codes "out"
spot_text (spots.Lent since) = codes "lent"

-- so many tenths of a percent
abbrev pub percent_text : ℕ → List ℕ
percent_text t = decimal (t / 10) ++ (codes "." ++ (decimal (t % 10) ++ codes "%"))

-- a field, where `none` stands for what is not there
abbrev pub field_text : List ℕ → Field → List ℕ
field_text none fields.Empty = none
field_text none (fields.Number n) = decimal n
field_text none (fields.Fraction over under) = if under == 0 then none else thousandths_text (1000 * over / under)
field_text none (fields.Percent part whole) = if whole == 0 then none else percent_text (1000 * part / whole)
field_text none (fields.Place place all) = decimal place ++ (codes "/" ++ decimal all)
field_text none (fields.How how) = how_text how
field_text none (fields.Level level) = level_text level
field_text none (fields.Spot spot) = spot_text spot

-- a field in its column
abbrev pub cell_text : Cell → List ℕ
cell_text (Right width field) = right_in width (field_text (codes "-") field)
cell_text (Left width field) = left_in width (field_text (codes "-") field)

-- a part of a line
abbrev pub part_text : Part → List ℕ
part_text (parts.Text text) = text.now
part_text (parts.Bytes bytes) = bytes.now
part_text (parts.Shown field) = field_text (codes "-") field
part_text (parts.Cell cell) = cell_text cell
