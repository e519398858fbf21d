use Rattle.std.proofs.Common.{refl, sym, ◌∙◌}
use Rattle.esx_tables.specs.Listed.{is_listed_at, content_at}
use Rattle.esx_tables.proofs.Noted.{listed_elsewhere}
use Rattle.esx_tables.proofs.tables.SiteTables.trade_listing.Goals as goal

pub invariant_of-self : goal.invariant_of-self
invariant_of-self c =
    let listings = c.self.inside.listings in
    let content = content_at c.self.inside.frames in
    c.touch.ensures.covers (is_listed_at listings) (is_listed_at c.trade.new.self) content content
    (λ at other there. sym (rw c.trade.ensures.listings (listed_elsewhere listings c.args.frame _ at other)) ∙ there) (λ at other. refl) c.self.invariant
