use Rattle.esx_text.proofs.LawLemmas.{one_answer}
use Rattle.esx_text.proofs.laws.one_answer.Goals as goal

pub returns : goal.returns
returns c = λ input caller count other before after last text others a b. one_answer input caller count other before after last text others a b
