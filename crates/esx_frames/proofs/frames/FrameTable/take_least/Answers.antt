use Rattle.std.proofs.Common.{sym}
use Rattle.esx_types.specs.Frames.{is_free}
use Rattle.esx_types.specs.declared.table.FrameRow.TheVariants.{Free}
use Rattle.esx_lists.proofs.Positions.{first_found}
use Rattle.esx_frames.proofs.frames.FrameTable.take_least.Goals as goal

pub swap_row-requires : goal.swap_row-requires
swap_row-requires c = (first_found is_free c.args.self.now c.in-Some.mpn Free (sym c.in-Some.ensures)).0
