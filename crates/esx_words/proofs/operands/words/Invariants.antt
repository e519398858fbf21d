use Rattle.std.proofs.Common.{◌≡◌, ◌≤◌, ◌++◌, decimal, length}
use Rattle.std.specs.Prelude.{map}
use Rattle.esx_words.specs.declared.operands.TheConstants.{MAX_WORDS}
use Rattle.esx_words.proofs.SampleLemmas.{AreWords}
use Rattle.esx_words.proofs.operands.words.Given as goal

abbrev pub invariant-loop-fields : goal.invariant-loop-fields
invariant-loop-fields l = record {
  read : l.initial.fields ≡ map decimal l.words.items ++ l.fields;
  few : length l.words.items ≤ MAX_WORDS;
  are : AreWords l.words.items;
}

abbrev pub decreases-loop-fields : goal.decreases-loop-fields
decreases-loop-fields l = length l.fields
