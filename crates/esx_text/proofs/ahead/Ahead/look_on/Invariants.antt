use Rattle.std.proofs.Common.{◌≡◌, length}
use Rattle.esx_text.specs.Lines.{HasLines}
use Rattle.esx_text.proofs.EndsLemmas.{behind}
use Rattle.esx_text.proofs.ahead.Ahead.look_on.Given as goal

abbrev pub invariant-loop-at : goal.invariant-loop-at
invariant-loop-at g l = record {
  found : HasLines l.text l.ends;
  rest : l.rest ≡ behind l.text l.ends;
}

abbrev pub decreases-loop-at : goal.decreases-loop-at
decreases-loop-at g l = length l.rest
