-- The tables of losses.
use Rattle.std.specs.Prelude.{ℕ, List, [], ◌∷◌, ◌++◌, ◌+◌, ◌-◌, ◌*◌, ◌==◌, codes, flat_map, if◌then◌else◌, option_map, Option, Some, None, All}
use Rattle.esx_formulas.specs.declared.targets.Row.{Row}
use Rattle.esx_formulas.specs.declared.activity.TheConstants.{WHOLE}
use Rattle.esx_formulas.specs.Ratio.{claim}
use Rattle.esx_story.specs.declared.change.Asked.{Asked}
use Rattle.esx_story.specs.declared.change.How.{How}
use Rattle.esx_story.specs.Order.{HasGoodRows}
use Rattle.esx_report.specs.declared.field.Field.{Field}
use Rattle.esx_report.specs.declared.field.Field.TheVariants as fields
use Rattle.esx_report.specs.declared.losses.LossLine.{LossLine}
use Rattle.esx_report.specs.declared.losses.RowFields.{RowFields}
use Rattle.esx_report.specs.declared.losses.AskedFields.{AskedFields}
use Rattle.esx_report.specs.Rows.{csv_row}

-- the taxed ratio of a machine in shares a page
abbrev pub ratio : Row → Field
ratio row = fields.Fraction (WHOLE * (claim row row.pages).over) (claim row row.pages).under

abbrev pub number_field : Option ℕ → Field
number_field None = fields.Empty
number_field (Some n) = fields.Number n

abbrev pub how_field : Option How → Field
how_field None = fields.Empty
how_field (Some how) = fields.How how

-- what a machine had, if there was one
abbrev pub row_fields : Option Row → RowFields
row_fields None = record { vm = fields.Empty; pages = fields.Empty; target = fields.Empty; shares = fields.Empty; active = fields.Empty; tax = fields.Empty; ratio = fields.Empty }
row_fields (Some row) = record {
  vm = fields.Number row.vm;
  pages = fields.Number row.pages;
  target = fields.Number row.floor;
  shares = fields.Number row.shares;
  active = fields.Number row.active;
  tax = fields.Number row.tau;
  ratio = ratio row;
}

-- what a rebalance asked for, if one did
abbrev pub asked_fields : Option Asked → AskedFields
asked_fields None = record { need = fields.Empty; revoked = fields.Empty; given = fields.Empty }
asked_fields (Some asked) = record { need = fields.Number asked.need; revoked = fields.Number asked.revoked; given = fields.Number asked.given }

-- the rebalance that set the target, 0 where none did since the admission
abbrev pub set_number : Option ℕ → ℕ
set_number None = 0
set_number (Some event) = event

-- how many events later it came back
abbrev pub later : LossLine → Option ℕ
later line = option_map (λ event. event - line.loss.at) line.loss.back

abbrev pub loss_head : List ℕ
loss_head = codes "event,node,call,by,vm,life,page,how,level,free,here,target,set,need,revoked,from_vm,shares,active,tax,ratio,above,rank,next,next_ratio,slot,back,as,after,waits\n"

abbrev pub loss_fields : LossLine → List Field
loss_fields line =
    fields.Number line.loss.at ∷ fields.Number line.node ∷ fields.Number line.call ∷ fields.Number line.by
    ∷ fields.Number line.loss.change.vm ∷ fields.Number line.loss.life ∷ fields.Number line.loss.change.page ∷ fields.How line.loss.change.how
    ∷ fields.Level line.loss.seen.level ∷ fields.Number line.loss.seen.free
    ∷ (row_fields line.loss.seen.order.own).pages ∷ (row_fields line.loss.seen.order.own).target ∷ fields.Number (set_number line.loss.set)
    ∷ (asked_fields line.loss.asked).need ∷ (asked_fields line.loss.asked).revoked ∷ (asked_fields line.loss.asked).given
    ∷ (row_fields line.loss.seen.order.own).shares ∷ (row_fields line.loss.seen.order.own).active ∷ (row_fields line.loss.seen.order.own).tax ∷ (row_fields line.loss.seen.order.own).ratio
    ∷ fields.Number line.loss.seen.order.above ∷ number_field line.loss.seen.order.rank
    ∷ (row_fields line.loss.seen.order.next).vm ∷ (row_fields line.loss.seen.order.next).ratio
    ∷ number_field line.loss.slot ∷ number_field line.loss.back ∷ how_field line.loss.came ∷ number_field (later line) ∷ fields.Number line.loss.waits ∷ []

abbrev pub loss_row : LossLine → List ℕ
loss_row line = csv_row (loss_fields line)

-- the whole table of losses
abbrev pub losses_csv : List LossLine → List ℕ
losses_csv lines = loss_head ++ flat_map loss_row lines

-- the rows that are told of each are in their ranges
abbrev pub AreGoodLines : List LossLine → Type 0
AreGoodLines lines = All (λ line. HasGoodRows line.loss.seen.order) lines

abbrev pub commas : List ℕ → ℕ
commas [] = 0
commas (b ∷ bs) = if b == 44 then commas bs + 1 else commas bs

-- how many fields a line of comma-separated values has
abbrev pub field_count : List ℕ → ℕ
field_count text = commas text + 1
