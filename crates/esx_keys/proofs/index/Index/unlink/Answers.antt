use Rattle.std.proofs.Common.{◌∙◌}
use Rattle.esx_keys.specs.Index.{chain_in}
use Rattle.esx_keys.proofs.Chained.{IsChained-unlinked}
use Rattle.esx_keys.proofs.index.Index.unlink.Goals as goal

pub returns-clause-chained : goal.returns-clause-chained
returns-clause-chained c = λ moved moves.
    let index = c.args.self.now in
    let set = c.set_link.ensures in
    rw set.sizes.listings (IsChained-unlinked _ (chain_in index) moved index.heads.items index.next c.set_link.new.self.heads.items c.set_link.new.self.next c.args.chain c.args.frame c.last_below-last.result set.sizes.heads c.requires.frame c.requires.index.chained c.requires.there c.requires.chain c.last_below-last.ensures (set.there ∙ c.row-onward.ensures) set.others moves)
