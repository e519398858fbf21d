use Rattle.std.proofs.Common.{refl}
use Rattle.esx_program.proofs.serving.record_file.Goals as goal
use Rattle.esx_program.proofs.serving.record_file.Goals.{in-Ok-ended, in-Err-ended}

pub returns-in-Err : goal.returns-in-Err
returns-in-Err g c = let none = c.in-Err.ensures.site in (none.0, none.1, (none.3, refl, refl, refl))

pub returns : goal.returns
returns g c =
    let here = c.in-Ok.ensures.site in
    let e = c.record-recorded.ensures in
    rw c.into_reader.ensures
    (elim c.match-recorded.branch [
      | in-Ok-ended w ↦ rw w.ended-is (here.0, here.1, (c.in-Ok.site, here.2, w.in-Ok-ended.field-0, rw (w.in-Ok-ended.is, c.new-reader.ensures.reader) at e.ok))
      | in-Err-ended w ↦ rw w.ended-is (here.0, here.1, (c.in-Ok.site, here.2, rw (w.in-Err-ended.is, c.new-reader.ensures.reader) at e.fault))
    ])
