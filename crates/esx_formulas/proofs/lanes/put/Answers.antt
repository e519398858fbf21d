use Rattle.std.proofs.Common.{refl, ◌∙◌, arith}
use Rattle.esx_formulas.proofs.LaneFacts.{AreSums_more, AreWords_more, sum_in_lane}
use Rattle.esx_formulas.proofs.lanes.put.Goals as goal

pub returns : goal.returns
returns c = λ j ws low held same. record {
  words = AreWords_more c.args.w.now c.args.words j c.args.t ws (omega arith) held.words same;
  sums =
      AreSums_more c.args.sums.now c.add.result j c.args.t ws (omega arith) held.sums
      (c.add.ensures j low ∙ sum_in_lane c.args.words j c.args.t _ ws low same refl);
}
