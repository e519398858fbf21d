use Rattle.std.proofs.Common.{refl}
use Rattle.esx_types.specs.declared.table.FrameRow.TheVariants as frames
use Rattle.esx_sharing.proofs.Rows.{found_private}
use Rattle.esx_sharing.proofs.sharing.look_for.Goals as goal

pub returns-clause-look : goal.returns-clause-look
returns-clause-look c =
    found_private c.args.tables.now c.args.vm c.args.page (frames.Private c.args.bytes.now) c.args.bytes.now c.args.key c.look_by_key-look.result refl c.requires c.look_by_key-look.ensures
