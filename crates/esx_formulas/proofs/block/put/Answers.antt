use Rattle.std.proofs.Common.{refl, ◌∙◌, arith}
use Rattle.esx_formulas.proofs.LaneFacts.{AreSums_more, AreWords_more}
use Rattle.esx_formulas.proofs.block.put.Goals as goal

pub returns : goal.returns
returns c = λ ws held same. record {
  words = AreWords_more c.args.w.now _ 0 c.args.t ws (omega arith) held.words same;
  sums =
      AreSums_more c.args.sums.now _ 0 c.args.t ws (omega arith) held.sums
      (c.put_first.ensures ∙ rw same refl);
}
