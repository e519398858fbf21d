-- What the marks of an open period tell.
use Rattle.std.specs.Prelude.{ℕ, ◌==◌, Bool, List, [], Option, Some, None, count_by}
use Rattle.std.specs.List.{list_any}
use Rattle.esx_model.specs.declared.book.Mark.{Mark}
use Rattle.esx_model.specs.declared.book.PeriodRow.{PeriodRow}

-- the marks; none where no period is open
abbrev pub marks_of : Option PeriodRow → List Mark
marks_of None = []
marks_of (Some p) = p.marks

-- some mark names the page
abbrev pub samples : Option PeriodRow → ℕ → Bool
samples period page = list_any (λ m. page == m.page) (marks_of period)

-- how many of the sampled pages were touched so far; 0 where no period is open
abbrev pub touched_marks : Option PeriodRow → ℕ
touched_marks period = count_by (λ m. m.touched) (marks_of period)
