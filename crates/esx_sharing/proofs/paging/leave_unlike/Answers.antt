use Rattle.std.proofs.Common.{subst}
use Rattle.esx_types.specs.Frames.{frame_at}
use Rattle.esx_changes.specs.Planned.{Plans}
use Rattle.esx_sharing.proofs.Unlike.{leaves_unlike}
use Rattle.esx_sharing.proofs.paging.leave_unlike.Goals as goal

pub returns : goal.returns
returns c =
    let t = c.args.tables.now in
    subst (Plans c.frame_to_slot.result)
    (leaves_unlike t c.args.vm c.args.page c.args.own (frame_at t.frames c.args.own) c.requires)
    c.frame_to_slot.ensures
