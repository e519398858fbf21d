use Rattle.esx_text.proofs.PageOutLemmas.{pageout_spells_none}
use Rattle.esx_text.proofs.laws.no_pageout_call.Goals as goal

pub returns : goal.returns
returns c = λ line n page asks call is. pageout_spells_none line n page asks call is
