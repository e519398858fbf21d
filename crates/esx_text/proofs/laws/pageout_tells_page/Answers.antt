use Rattle.esx_text.proofs.PageOutTells.{pageout_tells}
use Rattle.esx_text.proofs.laws.pageout_tells_page.Goals as goal

pub returns : goal.returns
returns c = λ session n page word answer is said. pageout_tells session n page word answer is said
