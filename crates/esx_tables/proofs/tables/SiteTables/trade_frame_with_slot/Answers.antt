use Rattle.esx_tables.specs.Listed.{is_listed_at, content_at}
use Rattle.esx_tables.proofs.Noted.{slots_elsewhere}
use Rattle.esx_tables.proofs.tables.SiteTables.trade_frame_with_slot.Goals as goal

pub invariant_of-self : goal.invariant_of-self
invariant_of-self c =
    let inside = c.self.inside in
    let listed = is_listed_at inside.listings in
    c.touch.ensures.covers listed listed (content_at inside.frames) (content_at c.trade_slots.new.frames) (λ at other there. there)
    (λ at other. rw c.trade_slots.ensures.frames (slots_elsewhere c.args.frame c.args.slot inside.frames inside.slots at other)) c.self.invariant
