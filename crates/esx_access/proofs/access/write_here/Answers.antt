use Rattle.std.proofs.Common.{◌≡◌, ap, sym}
use Rattle.esx_types.specs.declared.table.FrameRow.{FrameRow}
use Rattle.esx_types.specs.declared.table.FrameRow.TheVariants as frames
use Rattle.esx_types.specs.Frames.{frame_at}
use Rattle.esx_access.specs.Access.{write_frame}
use Rattle.esx_changes.proofs.Rows.{past_frames}
use Rattle.esx_access.proofs.access.write_here.Goals as goal

pub returns-in-None : goal.returns-in-None
returns-in-None c =
    let free : frame_at c.args.tables.now.frames c.args.frame ≡ frames.Free = past_frames c.args.tables.now.frames c.args.frame (sym c.in-None.ensures) in
    (λ other. ap (λ (row : FrameRow). write_frame c.args.tables.now c.args.vm c.args.row.now c.args.page c.args.at c.args.new.now c.args.frame row) free, λ same. cc)
