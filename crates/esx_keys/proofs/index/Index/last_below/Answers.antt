use Rattle.std.proofs.Common.{◌<◌, length, rules, arith}
use Rattle.std.proofs.lemmas.List.{get_or_read}
use Rattle.esx_keys.specs.Index.{chain_in}
use Rattle.esx_keys.proofs.Chained.{lands_in, goes_up, found_before}
use Rattle.esx_keys.proofs.index.Index.last_below.Goals as goal

pub loop-at-init : goal.loop-at-init
loop-at-init c = record {
  within = search rules;
  below = search rules;
  link = get_or_read c.args.self.now.heads.items c.args.chain _ c.requires.chain c.index-at.ensures 0;
}

pub loop-at-smaller : goal.loop-at-smaller
loop-at-smaller c =
    let index = c.args.self.now in
    let walk = c.loop-at.invariant in
    let below : c.loop-at.at < length index.listings = omega (arith, c.requires.frame) in
    let here = lands_in _ (chain_in index) index.heads.items index.next c.args.chain c.loop-at.at c.loop-at.last c.requires.index.chained c.requires.chain walk.within walk.link below in
    omega (arith, c.row-at.ensures, goes_up _ (chain_in index) index.heads.items index.next c.args.chain c.loop-at.at c.requires.index.chained c.requires.chain here)

pub loop-at-preserved : goal.loop-at-preserved
loop-at-preserved c =
    let index = c.args.self.now in
    let walk = c.loop-at.invariant in
    let below : c.loop-at.at < length index.listings = omega (arith, c.requires.frame) in
    record {
      within = lands_in _ (chain_in index) index.heads.items index.next c.args.chain c.loop-at.at c.loop-at.last c.requires.index.chained c.requires.chain walk.within walk.link below;
      below = search rules;
      link = c.row-at.ensures;
    }

pub returns : goal.returns
returns c =
    let index = c.args.self.now in
    let walk = c.loop-at.invariant in
    found_before _ (chain_in index) index.heads.items index.next c.args.chain c.args.frame c.loop-at.at c.loop-at.last c.requires.index.chained c.requires.chain walk.within walk.link walk.below c.loop-at-test.false
