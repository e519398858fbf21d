use Rattle.esx_words.proofs.LetterLemmas.{lower_command}
use Rattle.esx_words.proofs.laws.lower_command.Goals as goal

pub returns : goal.returns
returns c = λ text call is. lower_command text call is
