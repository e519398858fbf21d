use Rattle.esx_records.proofs.Together.{bytes_together, marks_together}
use Rattle.esx_records.proofs.laws.flips_make_nothing.Goals as goal

pub returns-clause-bytes : goal.returns-clause-bytes
returns-clause-bytes c = λ here r. bytes_together here.tables r.changes

pub returns-clause-marks : goal.returns-clause-marks
returns-clause-marks c = λ here r. marks_together here.tables r.changes
