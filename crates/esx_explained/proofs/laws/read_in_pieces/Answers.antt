use Rattle.esx_explained.proofs.InputLemmas.{read_in_pieces}
use Rattle.esx_explained.proofs.laws.read_in_pieces.Goals as goal

pub returns : goal.returns
returns c = λ text ended rest e. read_in_pieces text ended rest e
