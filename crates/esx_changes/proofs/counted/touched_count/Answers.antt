use Rattle.std.proofs.Common.{arith}
use Rattle.std.proofs.lemmas.List.Sums.{count_by-le-length}
use Rattle.esx_tables.specs.Sampled.{marks_of}
use Rattle.esx_changes.specs.Counted.{is_touched_by}
use Rattle.esx_changes.proofs.Turned.{touched_or_first}
use Rattle.esx_changes.proofs.counted.touched_count.Goals as goal

pub returns-clause-value : goal.returns-clause-value
returns-clause-value c =
    let all = touched_or_first c.args.page (marks_of c.args.row.now.period) in
    let near = c.near_marks.ensures.count in
    omega (arith, all, near, c.touched_marks.ensures, c.first_count.ensures)

pub returns-clause-most : goal.returns-clause-most
returns-clause-most c =
    let all = touched_or_first c.args.page (marks_of c.args.row.now.period) in
    let near = c.near_marks.ensures.count in
    let most = count_by-le-length (is_touched_by c.args.page) (marks_of c.args.row.now.period) in
    omega (arith, all, near, most, c.touched_marks.ensures, c.first_count.ensures)
