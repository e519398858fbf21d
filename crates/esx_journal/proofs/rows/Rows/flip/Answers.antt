use Rattle.std.proofs.Common.{◌≡◌, ◌∙◌, sym, ap, subst, arith, length, Option, Some, slice_index_or}
use Rattle.esx_machine.specs.Machine.{Back, Trades}
use Rattle.esx_journal.specs.Children.{AreLinked, no_row}
use Rattle.esx_journal.proofs.Lists.{set_length}
use Rattle.esx_journal.proofs.Parting.{link_inside, record_here, record_trades, linked_trades, no_trade}
use Rattle.esx_journal.proofs.rows.Rows.flip.Goals as goal

pub index-requires : goal.index-requires
index-requires c = (let inside = link_inside c.self.inside.links.items c.self.inside.records.items c.args.self.now c.args.at c.self.view_is c.self.invariant c.requires.inside in omega arith)

pub index_mut-requires : goal.index_mut-requires
index_mut-requires c =
    let inside = link_inside c.self.inside.links.items c.self.inside.records.items c.args.self.now c.args.at c.self.view_is c.self.invariant c.requires.inside in
    let long = c.self.invariant in
    omega arith

pub flip-requires : goal.flip-requires
flip-requires c = record {
  fits = c.requires.fits no_row c.index_mut.result.now
      (record_here c.self.inside.links.items c.self.inside.records.items c.args.self.now c.args.at c.index.result.now c.index_mut.result.now c.self.view_is c.self.invariant c.requires.inside c.index.ensures c.if-index.true c.index_mut.ensures.value no_row);
}

pub returns-then-index-clause-size : goal.returns-then-index-clause-size
returns-then-index-clause-size c =
    ap length (record_trades c.self.inside.links.items c.self.inside.records.items c.args.self.now c.args.at c.index.result.now c.flip.new.back c.self.view_is c.self.invariant c.requires.inside c.index.ensures c.if-index.true no_row)
    ∙ set_length c.args.self.now c.args.at (record (slice_index_or c.args.self.now c.args.at no_row) { back = Some c.flip.new.back })

pub returns-then-index-clause-linked : goal.returns-then-index-clause-linked
returns-then-index-clause-linked c = λ h.
    let here = record_here c.self.inside.links.items c.self.inside.records.items c.args.self.now c.args.at c.index.result.now c.index_mut.result.now c.self.view_is c.self.invariant c.requires.inside c.index.ensures c.if-index.true c.index_mut.ensures.value no_row in
    subst AreLinked (sym (record_trades c.self.inside.links.items c.self.inside.records.items c.args.self.now c.args.at c.index.result.now c.flip.new.back c.self.view_is c.self.invariant c.requires.inside c.index.ensures c.if-index.true no_row))
    (linked_trades c.args.self.now c.args.at c.index_mut.result.now c.flip.new.back c.requires.inside here h)

-- one record alone stands there
one_back : (o : Option Back) (a b : Back) → o ≡ Some a → o ≡ Some b → b ≡ a
one_back o a b is same = cc

pub returns-then-index-clause-flips : goal.returns-then-index-clause-flips
returns-then-index-clause-flips c = λ there d b e trades.
    let here = record_here c.self.inside.links.items c.self.inside.records.items c.args.self.now c.args.at c.index.result.now c.index_mut.result.now c.self.view_is c.self.invariant c.requires.inside c.index.ensures c.if-index.true c.index_mut.ensures.value d in
    let P : Back → Type 0 = λ x. Trades x c.args.machine.now there in
    let flipped = c.flip.ensures there (subst P (one_back (slice_index_or c.args.self.now c.args.at d).back c.index_mut.result.now b here e) trades) in
    record {
      arrives = flipped.0;
      back = c.flip.new.back;
      trades = flipped.1;
      rows = record_trades c.self.inside.links.items c.self.inside.records.items c.args.self.now c.args.at c.index.result.now c.flip.new.back c.self.view_is c.self.invariant c.requires.inside c.index.ensures c.if-index.true d;
    }

pub returns-else-index-clause-flips : goal.returns-else-index-clause-flips
returns-else-index-clause-flips c = λ there d b e trades.
    absurd (no_trade c.self.inside.links.items c.self.inside.records.items c.args.self.now c.args.at c.index.result.now b c.self.view_is c.self.invariant c.requires.inside c.index.ensures c.if-index.false d e)
