use Rattle.std.proofs.Common.{ap, ◌∙◌, Option}
use Rattle.std.specs.Option.{unwrap_or}
use Rattle.std.proofs.lemmas.Option.{unwrap_or-slice_get}
use Rattle.esx_types.specs.declared.table.FrameRow.{FrameRow}
use Rattle.esx_types.specs.declared.table.FrameRow.TheVariants.{Free}
use Rattle.esx_types.specs.Frames.{ref_count}
use Rattle.esx_changes.proofs.shared.ref_count.Goals as goal

pub returns-in-None : goal.returns-in-None
returns-in-None c = ap (λ (o : Option FrameRow). ref_count (unwrap_or o Free)) c.in-None.ensures ∙ ap ref_count (unwrap_or-slice_get c.args.tables.now.frames c.args.frame Free)
