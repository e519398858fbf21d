use Rattle.std.proofs.Common.{◌≡◌, ◌<◌, List, length, sym, ap, ◌∙◌, arith}
use Rattle.std.proofs.Math.ListN.{set}
use Rattle.std.proofs.lemmas.List.{set-set}
use Rattle.esx_types.specs.declared.table.FrameRow.{FrameRow}
use Rattle.esx_types.specs.declared.table.SlotRow.{SlotRow}
use Rattle.esx_types.specs.declared.table.SlotRow.TheVariants.{Free}
use Rattle.esx_types.specs.Slots.{slot_at}
use Rattle.esx_frames.specs.Marks.{slot_traded_at}
use Rattle.esx_tables.proofs.Back.{slots_there}
use Rattle.esx_tables.proofs.exchange.trade_slots.Goals as goal

pub returns-then-slot-len-clause-slots : goal.returns-then-slot-len-clause-slots
returns-then-slot-len-clause-slots c =
    let frames = c.args.frames.now in
    let slots = c.args.slots.now in
    let i = c.args.slot in
    let h : i < length slots = omega (arith, c.if-slot-len.true, c.len.ensures) in
    let row : c.trade_slot_and_key-key.new.slot ≡ (slot_traded_at c.args.frame frames (slot_at slots i)).1 = rw c.take_row-row.ensures.row at c.trade_slot_and_key-key.ensures.slot in
    let now : c.keep_key.new.slots ≡ set slots i c.trade_slot_and_key-key.new.slot = c.keep_key.ensures ∙ c.put_row.ensures ∙ rw c.take_row-row.ensures.slots (set-set slots i Free c.trade_slot_and_key-key.new.slot) in
    now ∙ rw row (ap (λ (r : List FrameRow × List SlotRow). r.1) (sym (slots_there c.args.frame i frames slots h)))
