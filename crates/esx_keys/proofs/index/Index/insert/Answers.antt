use Rattle.std.proofs.Common.{sym}
use Rattle.esx_keys.specs.Index.{chain_in}
use Rattle.esx_keys.proofs.Chained.{IsChained-inserted}
use Rattle.esx_keys.proofs.index.Index.insert.Goals as goal

pub returns-clause-chained : goal.returns-clause-chained
returns-clause-chained c = λ moved moves.
    let index = c.args.self.now in
    let made = c.set_link.ensures in
    rw made.sizes.listings (IsChained-inserted _ (chain_in index) moved index.heads.items index.next c.set_link.new.self.heads.items c.set_link.new.self.next c.args.chain c.args.frame c.last_below-last.result made.sizes.heads (sym c.requires.index.links) c.requires.frame c.requires.index.chained c.requires.apart c.requires.chain c.last_below-last.ensures made.there (rw (← c.link-onward.ensures) made.others) moves)
