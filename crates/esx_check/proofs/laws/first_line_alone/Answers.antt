use Rattle.esx_check.proofs.MigrateLemmas.{printed_lines}
use Rattle.esx_check.proofs.laws.first_line_alone.Goals as goal

pub returns : goal.returns
returns c = printed_lines
