use Rattle.esx_tables.specs.Listed.{is_listed_at, content_at}
use Rattle.esx_tables.proofs.Noted.{content_elsewhere}
use Rattle.esx_tables.proofs.tables.SiteTables.trade_mark.Goals as goal

pub invariant_of-self : goal.invariant_of-self
invariant_of-self c =
    let rows = c.self.inside.frames in
    let listed = is_listed_at c.self.inside.listings in
    c.touch.ensures.covers listed listed (content_at rows) (content_at c.trade_mark.new.self) (λ at other there. there)
    (λ at other. rw c.trade_mark.ensures.rows (content_elsewhere rows c.args.frame _ at other)) c.self.invariant
