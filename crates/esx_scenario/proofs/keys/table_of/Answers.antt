use Rattle.std.proofs.Common.{◌∙◌}
use Rattle.esx_scenario.proofs.KeyLemmas.{table_at_none, table_at_some}
use Rattle.esx_scenario.proofs.keys.table_of.Goals as goal

pub returns-in_err-member : goal.returns-in_err-member
returns-in_err-member c = rw c.from_residual.ensures (table_at_none _ _ c.in_err-member.ensures)

pub returns : goal.returns
returns c = c.as_table.ensures ∙ table_at_some _ _ _ c.in_ok-member.ensures
