-- The table of steps.
use Rattle.std.specs.Prelude.{ℕ, List, [], ◌∷◌, ◌++◌, codes, flat_map, Option, Some, None}
use Rattle.esx_figures.specs.declared.figures.Figures.{Figures}
use Rattle.esx_report.specs.declared.field.Field.{Field}
use Rattle.esx_report.specs.declared.field.Field.TheVariants as fields
use Rattle.esx_report.specs.declared.steps.StepRow.{StepRow}
use Rattle.esx_report.specs.declared.steps.FigureFields.{FigureFields}
use Rattle.esx_report.specs.Losses.{number_field}
use Rattle.esx_report.specs.Rows.{csv_row}

-- who called for the event, nobody for the opening
abbrev pub by_field : Option ℕ → Field
by_field None = fields.Empty
by_field (Some by) = fields.Number by

-- what is told of a machine, if it is there
abbrev pub figure_fields : Option Figures → FigureFields
figure_fields None = record { here = fields.Empty; target = fields.Empty; active = fields.Empty; shared = fields.Empty; lent = fields.Empty; out = fields.Empty }
figure_fields (Some f) = record {
  here = fields.Number f.here;
  target = fields.Number f.target;
  active = fields.Number f.active;
  shared = fields.Number f.shared;
  lent = fields.Number f.lent;
  out = fields.Number f.out;
}

abbrev pub step_head : List ℕ
step_head = codes "event,node,by,vm,overhead,private,shared,free,level,here,target,active,shared_pages,lent,out\n"

abbrev pub step_fields : StepRow → List Field
step_fields row =
    fields.Number row.step.at ∷ fields.Number row.node ∷ by_field row.by ∷ number_field row.step.vm
    ∷ fields.Number row.step.site.overhead ∷ fields.Number row.step.site.private ∷ fields.Number row.step.site.shared ∷ fields.Number row.step.site.free ∷ fields.Level row.step.site.level
    ∷ (figure_fields row.step.figures).here ∷ (figure_fields row.step.figures).target ∷ (figure_fields row.step.figures).active
    ∷ (figure_fields row.step.figures).shared ∷ (figure_fields row.step.figures).lent ∷ (figure_fields row.step.figures).out ∷ []

abbrev pub step_row : StepRow → List ℕ
step_row row = csv_row (step_fields row)

-- the whole table of steps
abbrev pub steps_csv : List StepRow → List ℕ
steps_csv rows = step_head ++ flat_map step_row rows
