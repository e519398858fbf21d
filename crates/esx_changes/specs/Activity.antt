-- What an open period has so that it tells something.
use Rattle.std.specs.Prelude.{Option, Some, None}
use Rattle.esx_formulas.specs.Estimates.{IsEstimate}
use Rattle.esx_model.specs.declared.book.PeriodRow.{PeriodRow}
use Rattle.esx_model.specs.Readings.{period_so_far}

-- an open period has some sampled pages, at most a hundred
abbrev pub IsTold : Option PeriodRow → Type 0
IsTold None = Unit {0}
IsTold (Some p) = IsEstimate (period_so_far p)
