use Rattle.std.proofs.Common.{◌≡◌, ◌≤◌, drop, length}
use Rattle.esx_explained.specs.Amiss.{MayBeBefore}
use Rattle.esx_explained.proofs.amiss.amiss_operands.Given as goal

abbrev pub invariant-loop-word : goal.invariant-loop-word
invariant-loop-word l = record {
  within : l.at ≤ length l.fn.fields;
  left : drop l.at l.fn.fields ≡ l.fields;
  before : MayBeBefore l.command l.fn.fields l.at;
}

abbrev pub decreases-loop-word : goal.decreases-loop-word
decreases-loop-word l = length l.fields
