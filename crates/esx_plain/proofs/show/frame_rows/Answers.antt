use Rattle.std.proofs.Common.{arith}
use Rattle.std.proofs.lemmas.List.FromFn.{map-range_with_len_more}
use Rattle.esx_model.specs.Show.{frame_row}
use Rattle.esx_plain.proofs.show.frame_rows.Goals as goal

pub loop-frame-preserved : goal.loop-frame-preserved
loop-frame-preserved c =
    let more = map-range_with_len_more (frame_row c.args.site.now) 0 c.loop-frame.frame c.loop-frame.frame (omega arith) in
    cc (more, c.in_ok-push.ensures.ok, c.in_ok-frame_row.ensures, c.loop-frame.invariant)
