-- The table of losses in columns.
use Rattle.std.specs.Prelude.{ℕ, List, [], ◌∷◌, ◌*◌, ◌/◌, codes, Option, Some, None}
use Rattle.esx_formulas.specs.declared.targets.Row.{Row}
use Rattle.esx_formulas.specs.declared.activity.TheConstants.{WHOLE}
use Rattle.esx_report.specs.declared.field.Field.{Field}
use Rattle.esx_report.specs.declared.field.Field.TheVariants as fields
use Rattle.esx_report.specs.declared.column.Cell.{Cell}
use Rattle.esx_report.specs.declared.column.Cell.TheVariants.{Right, Left}
use Rattle.esx_report.specs.declared.losses.LossLine.{LossLine}
use Rattle.esx_report.specs.Rows.{table_row}
use Rattle.esx_report.specs.Losses.{number_field, how_field, row_fields, set_number, later}

-- the active part of a machine's memory in percent, cut off
abbrev pub active_percent : Option Row → Field
active_percent None = fields.Empty
active_percent (Some row) = fields.Number (row.active * 100 / WHOLE)

-- where a machine stands among those above their target
abbrev pub rank_field : Option ℕ → ℕ → Field
rank_field None above = fields.Empty
rank_field (Some rank) above = fields.Place rank above

abbrev pub loss_heading : List ℕ
loss_heading = codes "   event     node  by  vm   page how     level    free   here target      set  shares  act      ratio  rank next     nratio     back as       after waits\n"

abbrev pub loss_cells : LossLine → List Cell
loss_cells line =
    Right 8 (fields.Number line.loss.at) ∷ Right 8 (fields.Number line.node) ∷ Right 3 (fields.Number line.by)
    ∷ Right 3 (fields.Number line.loss.change.vm) ∷ Right 6 (fields.Number line.loss.change.page) ∷ Left 7 (fields.How line.loss.change.how)
    ∷ Left 5 (fields.Level line.loss.seen.level) ∷ Right 7 (fields.Number line.loss.seen.free)
    ∷ Right 6 (row_fields line.loss.seen.order.own).pages ∷ Right 6 (row_fields line.loss.seen.order.own).target ∷ Right 8 (fields.Number (set_number line.loss.set))
    ∷ Right 7 (row_fields line.loss.seen.order.own).shares ∷ Right 4 (active_percent line.loss.seen.order.own) ∷ Right 10 (row_fields line.loss.seen.order.own).ratio
    ∷ Right 5 (rank_field line.loss.seen.order.rank line.loss.seen.order.above)
    ∷ Right 4 (row_fields line.loss.seen.order.next).vm ∷ Right 10 (row_fields line.loss.seen.order.next).ratio
    ∷ Right 8 (number_field line.loss.back) ∷ Left 6 (how_field line.loss.came) ∷ Right 7 (number_field (later line)) ∷ Right 5 (fields.Number line.loss.waits) ∷ []

abbrev pub loss_line : LossLine → List ℕ
loss_line line = table_row (loss_cells line)
