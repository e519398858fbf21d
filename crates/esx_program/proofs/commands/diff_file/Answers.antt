use Rattle.std.proofs.Common.{refl}
use Rattle.esx_program.specs.Files.{HasText}
use Rattle.esx_program.proofs.DoingLemmas.{file_compared}
use Rattle.esx_program.proofs.FileLemmas.{no_text_no_check}
use Rattle.esx_program.proofs.commands.diff_file.Goals as goal

pub returns-in-Ok : goal.returns-in-Ok
returns-in-Ok g c =
    let read = c.in-Ok.ensures in
    let here : HasText read.0 c.as_str.result.now = rw c.as_str.ensures.value read.2 in
    (read.0, read.1, file_compared read.0 _ _ c.as_str.result.now here c.diff_to.result c.diff_to.ensures.told c.diff_to.ensures.failure)

pub returns-in-Err : goal.returns-in-Err
returns-in-Err g c = let none = c.in-Err.ensures in (none.0, none.1, (no_text_no_check none.0 c.in-Err.fault none.3, refl))
