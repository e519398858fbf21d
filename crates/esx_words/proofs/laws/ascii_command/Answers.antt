use Rattle.esx_words.proofs.CommandLemmas.{ascii_command}
use Rattle.esx_words.proofs.laws.ascii_command.Goals as goal

pub returns : goal.returns
returns c = λ text call is. ascii_command text call is
