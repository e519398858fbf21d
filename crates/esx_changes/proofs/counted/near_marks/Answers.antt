use Rattle.esx_tables.specs.Sampled.{marks_of}
use Rattle.esx_changes.proofs.Turned.{far}
use Rattle.esx_changes.proofs.counted.near_marks.Goals as goal

pub returns-else-may_sample : goal.returns-else-may_sample
returns-else-may_sample c = far c.args.page (marks_of c.args.row.now.period) (c.may_sample.ensures c.if-may_sample.false)
