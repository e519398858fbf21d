use Rattle.std.proofs.Common.{refl}
use Rattle.esx_program.specs.Files.{HasLongText}
use Rattle.esx_program.proofs.DoingLemmas.{file_asked}
use Rattle.esx_program.proofs.reporting.report_file.Goals as goal

pub returns-in-Ok : goal.returns-in-Ok
returns-in-Ok g c =
    let read = c.in-Ok.ensures in
    let here : HasLongText read.0 c.as_str.result.now = rw c.as_str.ensures.value read.2 in
    (read.0, read.1, file_asked read.0 c.args.question _ _ c.as_str.result.now here c.answer_to.result c.answer_to.ensures.told c.answer_to.ensures.failure)

pub returns-in-Err : goal.returns-in-Err
returns-in-Err g c = let none = c.in-Err.ensures in (none.0, none.1, (none.3, refl))
