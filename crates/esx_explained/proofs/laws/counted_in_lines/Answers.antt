use Rattle.esx_explained.proofs.InputLemmas.{counted_in_lines}
use Rattle.esx_explained.proofs.laws.counted_in_lines.Goals as goal

pub returns : goal.returns
returns c = λ text ended rest e. counted_in_lines text ended rest e
