use Rattle.std.proofs.Common.{length, ap, sym, ◌∙◌, Option}
use Rattle.esx_average.specs.Means.{Means}
use Rattle.esx_model.specs.declared.book.PeriodRow.{PeriodRow}
use Rattle.esx_changes.specs.Counted.{open_parts}
use Rattle.esx_changes.proofs.counted.counted_len.Goals as goal

pub open_len-requires : goal.open_len-requires
open_len-requires c =
    let opened = sym c.period.ensures ∙ c.in-Some.is in
    record { «open» = c.requires c.in-Some.period opened; near = rw opened at c.near_marks.ensures }

pub returns-in-Some-clause-value : goal.returns-in-Some-clause-value
returns-in-Some-clause-value c =
    let means : Means = record { slow = c.args.row.now.slow; fast = c.args.row.now.fast } in
    c.open_len.ensures.value means ∙ ap (λ (o : Option PeriodRow). length (open_parts c.args.page means o)) (sym (sym c.period.ensures ∙ c.in-Some.is))
