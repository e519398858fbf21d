use Rattle.esx_explained.proofs.LawLemmas.{answered_by_number}
use Rattle.esx_explained.proofs.laws.explained_where_unknown.Goals as goal

pub returns : goal.returns
returns c = λ line not n caller session. answered_by_number line not n caller session
