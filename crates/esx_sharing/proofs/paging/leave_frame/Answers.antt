use Rattle.esx_sharing.proofs.paging.leave_frame.Goals as goal

pub leave_unlike-requires : goal.leave_unlike-requires
leave_unlike-requires c = λ other listed. absurd (listed (c.lists_none.ensures c.if-lists_none.true other))
