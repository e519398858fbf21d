-- The sample marks of changes: no trade gives more than those of one machine.
use Rattle.std.proofs.Common.{◌≡◌, ℕ, ◌≤◌, List, Option, Some, None, get_or, refl, arith}
use Rattle.std.specs.List.{AllByRecursion}
use Rattle.std.proofs.lemmas.List.{length-set}
use Rattle.esx_types.specs.declared.config.TheConstants.{MAX_SAMPLE}
use Rattle.esx_model.specs.declared.book.PeriodRow.{PeriodRow}
use Rattle.esx_model.specs.declared.book.VmRow.{VmRow}
use Rattle.esx_model.specs.declared.tables.Tables.{Tables}
use Rattle.esx_tables.specs.declared.change.Change.{Change}
use Rattle.esx_tables.specs.declared.change.Change.TheVariants.{FrameAt, MarkAt, BytesAt, ListingAt, SlotAt, FrameWithSlot, OfVm, VmAt, TaxIs}
use Rattle.esx_tables.specs.declared.change.VmPart.{VmPart}
use Rattle.esx_tables.specs.declared.change.VmPart.TheVariants.{PageAt, Facts, Target, Period, Done, Touched, Averages, OverheadTop}
use Rattle.esx_tables.specs.Changes.{traded}
use Rattle.esx_tables.specs.Machines.{done_traded, mark_turned, no_mark, vm_traded}
use Rattle.esx_tables.specs.Sizes.{mark_count, part_marks, vm_marks, marks_held}
use Rattle.esx_records.proofs.Totals.{total, back, each_within, bounded_back}
use Rattle.esx_records.proofs.Pages.{all_set, all_get}

-- each machine's open period has `MAX_SAMPLE` pages at most
abbrev pub HaveFewMarks : Tables → Type 0
HaveFewMarks t = AllByRecursion (λ row. vm_marks row ≤ MAX_SAMPLE) t.vms

-- how many marks a trade leaves in a change at most
abbrev pub part_most : VmPart → ℕ
part_most (PageAt page row) = 0
part_most (Facts facts) = 0
part_most (Target target) = 0
part_most (Period period) = MAX_SAMPLE
part_most (Done done) = 0
part_most (Touched mark) = 1
part_most (Averages m) = 0
part_most (OverheadTop frame) = 0

abbrev pub marks_most : Change → ℕ
marks_most (OfVm n part) = part_most part
marks_most (VmAt n row) = MAX_SAMPLE
marks_most (FrameAt f row) = 0
marks_most (BytesAt f offset bytes) = 0
marks_most (SlotAt i row) = 0
marks_most (MarkAt f mark) = 0
marks_most (ListingAt f listing) = 0
marks_most (FrameWithSlot f i) = 0
marks_most (TaxIs tau) = 0

pub done_same : (o : Option PeriodRow) (done : ℕ) → mark_count (done_traded o done).0 ≡ mark_count o
done_same None done = refl
done_same (Some p) done = refl

pub turned_same : (v : VmRow) (o : Option PeriodRow) (mark : ℕ) → v.period ≡ o → vm_marks (vm_traded (Some v) (Touched mark)).0 ≡ mark_count o
turned_same v None mark e = rw e refl
turned_same v (Some p) mark e = rw e (length-set p.marks mark (mark_turned (get_or p.marks mark no_mark)))

part_few : (o : Option VmRow) (part : VmPart) → vm_marks o ≤ MAX_SAMPLE → part_marks part ≤ MAX_SAMPLE → (vm_marks (vm_traded o part).0 ≤ MAX_SAMPLE) × (part_marks (vm_traded o part).1 ≤ part_most part)
part_few None (PageAt page row) few some = (few, omega arith)
part_few None (Facts facts) few some = (few, omega arith)
part_few None (Target target) few some = (few, omega arith)
part_few None (Period period) few some = (few, some)
part_few None (Done done) few some = (few, omega arith)
part_few None (Touched mark) few some = (few, omega arith)
part_few None (Averages m) few some = (few, omega arith)
part_few None (OverheadTop frame) few some = (few, omega arith)
part_few (Some v) (PageAt page row) few some = (few, omega arith)
part_few (Some v) (Facts facts) few some = (few, omega arith)
part_few (Some v) (Target target) few some = (few, omega arith)
part_few (Some v) (Period period) few some = (some, few)
part_few (Some v) (Done done) few some = (let same = done_same v.period done in omega (arith, same, few), omega arith)
part_few (Some v) (Touched mark) few some = (let same = turned_same v v.period mark refl in omega (arith, same, few), omega arith)
part_few (Some v) (Averages m) few some = (few, omega arith)
part_few (Some v) (OverheadTop frame) few some = (few, omega arith)

one_few : (t : Tables) (change : Change) → HaveFewMarks t → marks_held change ≤ MAX_SAMPLE → HaveFewMarks (traded t change).0 × (marks_held (traded t change).1 ≤ marks_most change)
unfolding traded
one_few t (OfVm n part) few some =
    let P : Option VmRow → Type 0 = λ row. vm_marks row ≤ MAX_SAMPLE in
    let one = part_few (get_or t.vms n None) part (all_get P t.vms n None few (omega arith)) some in
    (all_set P t.vms n (vm_traded (get_or t.vms n None) part).0 few one.0, one.1)
one_few t (VmAt n row) few some =
    let P : Option VmRow → Type 0 = λ row. vm_marks row ≤ MAX_SAMPLE in
    (all_set P t.vms n row few some, all_get P t.vms n row few some)
one_few t (FrameAt f row) few some = (few, omega arith)
one_few t (BytesAt f offset bytes) few some = (few, omega arith)
one_few t (SlotAt i row) few some = (few, omega arith)
one_few t (MarkAt f mark) few some = (few, omega arith)
one_few t (ListingAt f listing) few some = (few, omega arith)
one_few t (FrameWithSlot f i) few some = (few, omega arith)
one_few t (TaxIs tau) few some = (few, omega arith)

pub marks_back : (t : Tables) (changes : List Change) → HaveFewMarks t → total marks_held changes ≤ MAX_SAMPLE → total marks_held (back t changes) ≤ total marks_most changes
marks_back t changes few some = bounded_back HaveFewMarks (λ change. marks_held change ≤ MAX_SAMPLE) marks_held marks_most one_few t changes few (each_within marks_held MAX_SAMPLE changes some)
