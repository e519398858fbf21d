use Rattle.esx_model.proofs.Harmless.{read_harmless}
use Rattle.esx_model.proofs.laws.read_is_harmless.Goals as goal

pub returns : goal.returns
returns c = read_harmless
