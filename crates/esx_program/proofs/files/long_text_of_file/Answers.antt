use Rattle.std.proofs.Common.{◌∙◌, ap, Ok, Err, refl}
use Rattle.esx_text.specs.States.{source_state}
use Rattle.esx_program.specs.Given.{open_fault}
use Rattle.esx_program.proofs.files.long_text_of_file.Goals as goal

pub returns-in-Ok : goal.returns-in-Ok
returns-in-Ok g c =
    let state = source_state g.F.Source.remaining g.F.Source.calls g.F.Source.failures g.F.Source.empty_reads g.F.Source.asked in
    rw c.in-Ok.is (Ok (state c.in-Ok.file, state c.text_within.new.file), (refl, refl), c.text_within.ensures.text, c.text_within.ensures.fault)

pub returns-in-Err : goal.returns-in-Err
returns-in-Err g c = rw c.in-Err.is (Err c.in-Err.error, (refl, refl), tt, c.fault_of_kind.ensures ∙ ap open_fault c.kind.ensures)
