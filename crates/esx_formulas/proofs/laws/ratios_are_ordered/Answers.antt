use Rattle.std.proofs.Common.{◌<◌}
use Rattle.esx_formulas.specs.Ratio.{Claim}
use Rattle.esx_formulas.specs.ShareLaws.{IsClaim}
use Rattle.esx_formulas.proofs.RatioLaws.{no_later_self, no_later_chain, no_later_either, no_later_same, more_pages_no_later, claim_above_none}
use Rattle.esx_formulas.proofs.laws.ratios_are_ordered.Goals as goal

above_none : (c : Claim) → IsClaim c → 0 < c.under
above_none c k = rw k.is (claim_above_none k.row k.pages k.good k.some)

pub returns : goal.returns
returns c = record {
  self = no_later_self;
  chain = λ x y z p q r. no_later_chain x y z (above_none x p) (above_none y q) (above_none z r);
  either = no_later_either;
  apart = no_later_same;
  more = more_pages_no_later;
}
