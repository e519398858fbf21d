-- The plan of a sample period that opens.
use Rattle.std.specs.Prelude.{ℕ, ◌%◌, false, List, [], ◌∷◌, length, map, Some, is_some, Ok}
use Rattle.esx_events.specs.declared.event.Answer.TheVariants as answers
use Rattle.esx_model.specs.declared.book.Mark.{Mark}
use Rattle.esx_model.specs.declared.book.PeriodRow.{PeriodRow}
use Rattle.esx_model.specs.declared.tables.Tables.{Tables}
use Rattle.esx_model.specs.Tables.{standing_of}
use Rattle.esx_model.specs.event.Outcome.{unless}
use Rattle.esx_model.specs.event.Sampling.{sample_gate}
use Rattle.esx_tables.specs.declared.change.Change.TheVariants.{OfVm}
use Rattle.esx_tables.specs.declared.change.VmPart.TheVariants.{Period}
use Rattle.esx_tables.specs.Readings.{row_at}
use Rattle.esx_changes.specs.Planned.{Planned, at_row}

-- the page that a word draws, not accessed yet
abbrev pub drawn : ℕ → ℕ → Mark
drawn max word = record { page = word % max; touched = false }

-- a period as it opens: equal words draw a page as often as they stand there
abbrev pub opened_row : ℕ → ℕ → List ℕ → PeriodRow
opened_row max len words = record { length = len; done = 0; marks = map (drawn max) words }

unfoldable pub sample_plan : Tables → ℕ → ℕ → List ℕ → Planned
sample_plan t n len words = at_row (row_at t n) (λ v. unless (sample_gate (standing_of v) (length words) len (is_some v.period))
    (Ok (answers.Opened len (length words), OfVm n (Period (Some (opened_row v.spec.max len words))) ∷ [])))
