use Rattle.std.proofs.Common.{refl, replicate}
use Rattle.esx_types.specs.declared.config.TheConstants.{VM_NUMBERS}
use Rattle.esx_course.proofs.Going.{course_opens}
use Rattle.esx_course.proofs.course.Course.open.Goals as goal

pub returns-clause-opens : goal.returns-clause-opens
returns-clause-opens c =
    let fine = c.in_ok-machine.ensures in
    course_opens c.args.site (record { machine = c.in_ok-machine.machine; epochs = replicate VM_NUMBERS 0 }) fine.checked fine.shows.0 fine.shows.1 refl
