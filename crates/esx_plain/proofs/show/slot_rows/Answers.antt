use Rattle.std.proofs.Common.{arith}
use Rattle.std.proofs.lemmas.List.FromFn.{map-range_with_len_more}
use Rattle.esx_model.specs.Show.{slot_row}
use Rattle.esx_plain.proofs.show.slot_rows.Goals as goal

pub loop-slot-preserved : goal.loop-slot-preserved
loop-slot-preserved c =
    let more = map-range_with_len_more (slot_row c.args.site.now) 0 c.loop-slot.slot c.loop-slot.slot (omega arith) in
    cc (more, c.in_ok-push.ensures.ok, c.in_ok-slot_row.ensures, c.loop-slot.invariant)
