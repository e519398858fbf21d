use Rattle.esx_pageout.proofs.Draws.{drawn_by_none}
use Rattle.esx_pageout.proofs.laws.drawn_by_none.Goals as goal

pub returns : goal.returns
returns c = λ s n page word e v there h drawn. drawn_by_none s n page word e v there h drawn
