use Rattle.std.proofs.Common.{◌≡◌, ap, sym, ◌∙◌}
use Rattle.std.proofs.lemmas.Option.{unwrap_or-slice_get}
use Rattle.std.specs.List.{slice_get}
use Rattle.std.specs.Option.{option_copied, unwrap_or}
use Rattle.esx_types.specs.declared.table.FrameRow.TheVariants.{Free}
use Rattle.esx_types.specs.Frames.{bytes_of}
use Rattle.esx_tables.proofs.tables.bytes_in.Goals as goal

pub returns-in-None : goal.returns-in-None
returns-in-None c =
    let frames = c.args.frames.now in
    let none : unwrap_or (slice_get frames c.args.frame) Free ≡ Free = ap (λ row. unwrap_or row Free) (sym c.get.ensures ∙ ap option_copied c.in-None.is) in
    sym (ap bytes_of (sym (unwrap_or-slice_get frames c.args.frame Free) ∙ none))
