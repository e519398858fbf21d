use Rattle.esx_pageout.proofs.Draws.{draws_its_page}
use Rattle.esx_pageout.proofs.laws.draws_its_page.Goals as goal

pub returns : goal.returns
returns c = λ s n page word v there h. draws_its_page s n page word v there h
