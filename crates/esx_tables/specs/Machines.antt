-- What a trade with a machine's row leaves of both.
use Rattle.std.specs.Prelude.{ℕ, not, false, Option, Some, None, option_map, slice_index_or, slice_set}
use Rattle.esx_model.specs.declared.book.VmRow.{VmRow}
use Rattle.esx_model.specs.declared.book.PeriodRow.{PeriodRow}
use Rattle.esx_model.specs.declared.book.Mark.{Mark}
use Rattle.esx_lists.specs.Trades.{top_traded, place_turned}
use Rattle.esx_tables.specs.declared.change.Facts.{Facts as VmFacts}
use Rattle.esx_tables.specs.declared.change.VmPart.{VmPart}
use Rattle.esx_tables.specs.declared.change.VmPart.TheVariants.{PageAt, Facts, Target, Period, Done, Touched, Averages, OverheadTop}

-- what the row tells in small numbers that events change, and the row with others
abbrev pub facts_of : VmRow → VmFacts
facts_of v = record { shares = v.spec.shares; tau = v.spec.tau; state = v.state; epoch = v.epoch; due = v.due; target = v.target }

abbrev pub with_facts : VmRow → VmFacts → VmRow
with_facts v f = record v { spec = record v.spec { shares = f.shares; tau = f.tau }; state = f.state; epoch = f.epoch; due = f.due; target = f.target }

-- how many accesses of the open period are done; where none is open nothing changes
abbrev pub done_traded : Option PeriodRow → ℕ → Option PeriodRow × ℕ
done_traded None done = (None, done)
done_traded (Some p) done = (Some (record p { done = done }), p.done)

-- whether a sampled page was accessed, turned round; where there is no such mark nothing changes
abbrev pub mark_turned : Mark → Mark
mark_turned m = record m { touched = not m.touched }

abbrev pub no_mark : Mark
no_mark = record { page = 0; touched = false }

abbrev pub touched_turned : ℕ → PeriodRow → PeriodRow
touched_turned at p = record p { marks = place_turned mark_turned p.marks at no_mark }

-- A part of the row traded. A page past the end stays out; a frame goes onto the end of the overhead where there is room,
-- or the last one off it.
abbrev pub part_traded : VmRow → VmPart → VmRow × VmPart
part_traded v (PageAt page row) = (record v { pages = slice_set v.pages page row }, PageAt page (slice_index_or v.pages page row))
part_traded v (Facts facts) = (with_facts v facts, Facts (facts_of v))
part_traded v (Target target) = (record v { target = target }, Target v.target)
part_traded v (Period period) = (record v { period = period }, Period v.period)
part_traded v (Done done) = (record v { period = (done_traded v.period done).0 }, Done (done_traded v.period done).1)
part_traded v (Touched mark) = (record v { period = option_map (touched_turned mark) v.period }, Touched mark)
part_traded v (Averages m) = (record v { slow = m.slow; fast = m.fast }, Averages (record { slow = v.slow; fast = v.fast }))
part_traded v (OverheadTop frame) =
    (record v { overhead = (top_traded v.spec.overhead 0 v.overhead frame).0 }, OverheadTop (top_traded v.spec.overhead 0 v.overhead frame).1)

-- the same where there is a machine; where there is none nothing changes
abbrev pub vm_traded : Option VmRow → VmPart → Option VmRow × VmPart
vm_traded None part = (None, part)
vm_traded (Some v) part = (Some (part_traded v part).0, (part_traded v part).1)
