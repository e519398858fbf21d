use Rattle.std.proofs.Common.{refl}
use Rattle.esx_program.proofs.commands.migrate_file.Goals as goal
use Rattle.esx_program.proofs.commands.migrate_file.Goals.{in-Ok-ended, in-Err-ended}

pub returns-in-Err-clause-migrated : goal.returns-in-Err-clause-migrated
returns-in-Err-clause-migrated g c = let none = c.in-Err.ensures in (none.0, none.1, (none.3, refl))

pub returns-clause-migrated : goal.returns-clause-migrated
returns-clause-migrated g c =
    let here = c.in-Ok.ensures in
    let e = c.migrate_to-migrated.ensures in
    elim c.match-migrated.branch [
      | in-Ok-ended w ↦ rw w.ended-is (here.0, here.1, (c.in-Ok.session.site, c.in-Ok.session.entries, here.2, rw w.in-Ok-ended.is at e.ok))
      | in-Err-ended w ↦ rw w.ended-is (here.0, here.1, (c.in-Ok.session.site, c.in-Ok.session.entries, here.2, rw w.in-Err-ended.is at e.fault))
    ]
