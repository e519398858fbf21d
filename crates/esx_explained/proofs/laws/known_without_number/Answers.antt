use Rattle.esx_explained.proofs.LawLemmas.{answered_without_number}
use Rattle.esx_explained.proofs.laws.known_without_number.Goals as goal

pub returns : goal.returns
returns c = λ line known n other caller session after text is. answered_without_number line known n other caller session after text is
