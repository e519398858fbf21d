use Rattle.std.proofs.Common.{sym, ap, ◌∙◌}
use Rattle.esx_types.specs.declared.table.FrameRow.{FrameRow}
use Rattle.esx_types.specs.declared.table.FrameRow.TheVariants as frames
use Rattle.esx_sharing.specs.Sharing.{look_in}
use Rattle.esx_sharing.proofs.sharing.look_by_row.Goals as goal

pub returns-in-Private-clause-look : goal.returns-in-Private-clause-look
returns-in-Private-clause-look c =
    let row = c.in-Private.is ∙ ap (λ b. frames.Private b) (sym c.as_slice-bytes.ensures) in
    c.look_for.ensures.look ∙ ap (λ (r : FrameRow). look_in c.args.tables.now c.args.vm c.args.page r) (sym row)
