use Rattle.esx_text.proofs.LawLemmas.{no_silent_call}
use Rattle.esx_text.proofs.laws.no_silent_call.Goals as goal

pub returns : goal.returns
returns c = λ text s call is. no_silent_call text s call is
