use Rattle.esx_formulas.proofs.Revoking.{worked_out, only_worked_out}
use Rattle.esx_formulas.proofs.laws.targets_page_by_page.Goals as goal

pub returns : goal.returns
returns c = λ rows need targets are. (only_worked_out rows are need targets, λ e. rw e (worked_out rows are need))
